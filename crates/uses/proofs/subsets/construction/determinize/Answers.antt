use Rattle.std.proofs.Common.{◌≡◌, ◌∙◌, ◌*◌, ◌<◌, List, length, not, sym, ap, subst, arith, rules}
use Rattle.std.proofs.lemmas.List.{length_push, get_or_read}
use Rattle.fixedbitset.specs.Bits.{Bits, empty}
use Rattle.fixedbitset.specs.TwoSets.{is_disjoint}
use Rattle.uses.specs.Automata.{at, end_from}
use Rattle.uses.specs.Subsets.{IsStep}
use Rattle.uses.proofs.PartsBuilt.{part_first, part_numbered, sets_more, needs_more}
use Rattle.uses.proofs.AcceptingSets.{flags_more, flags_kept}
use Rattle.uses.proofs.WordRuns.{end_within, end_set, useful, accepted_told, arrows_within}
use Rattle.uses.proofs.subsets.construction.determinize.Goals as goal

pub returns-then-limit-eq0-clause-too_many : goal.returns-then-limit-eq0-clause-too_many
returns-then-limit-eq0-clause-too_many c = λ _. let none = c.if-limit-eq0.true in
    needs_more c.args.nfa.now _ _ c.args.limit (part_first c.args.nfa.now c.requires) (omega arith)

pub loop-letter-init : goal.loop-letter-init
loop-letter-init c =
    let before = c.states.invariant in
    let sets : List Bits = c.states.sets.items in
    let accepting = c.args.nfa.now.accepting in
    let flagged = before.many in
    let many = length_push c.states.accepting.items (not c.is_disjoint.result) in
    let within : c.states.state < length sets = omega arith in
    let read = get_or_read sets c.states.state c.index.result.now within c.index.ensures (empty 0) in
    record {
      part = before.part;
      place = omega arith;
      flags =
          rw c.in_ok-push.ensures.items (flags_more sets accepting c.states.accepting.items c.is_disjoint.result
          before.flags
          (c.is_disjoint.ensures ∙ ap (λ set. is_disjoint set accepting) (read ∙ ap (at sets) (sym before.many))));
      many = rw c.in_ok-push.ensures.items (omega arith);
      within = within;
      limit = before.limit;
    }

pub returns-then-len-limit-clause-too_many : goal.returns-then-len-limit-clause-too_many
returns-then-len-limit-clause-too_many c = λ _.
    let nfa = c.args.nfa.now in
    let old : List Bits = c.loop-letter.sets.items in
    let before = c.loop-letter.invariant in
    let step = subst (λ set. IsStep nfa.states nfa.edges.items set c.loop-letter.letter c.in_ok-set.set)
    (get_or_read old c.states.state c.index-in-loop-letter.result.now before.within c.index-in-loop-letter.ensures
    (empty 0)) c.in_ok-set.ensures in
    needs_more nfa _ _ c.args.limit
    (part_numbered nfa old c.number_of.new.sets.items c.loop-letter.next.items c.states.state c.loop-letter.letter
    c.in_ok-set.set c.in_ok-number_of.field-0 before.part before.within c.loop-letter-test.true before.place step
    c.in_ok-number_of.ensures)
    (omega arith)

pub loop-letter-preserved : goal.loop-letter-preserved
loop-letter-preserved c =
    let nfa = c.args.nfa.now in
    let old : List Bits = c.loop-letter.sets.items in
    let before = c.loop-letter.invariant in
    let within = before.within in
    let flagged = before.many in
    let step = subst (λ set. IsStep nfa.states nfa.edges.items set c.loop-letter.letter c.in_ok-set.set)
    (get_or_read old c.states.state c.index-in-loop-letter.result.now before.within c.index-in-loop-letter.ensures
    (empty 0)) c.in_ok-set.ensures in
    let numbered = c.in_ok-number_of.ensures in
    let more = sets_more nfa old c.number_of.new.sets.items c.loop-letter.next.items c.states.state c.loop-letter.letter
    c.in_ok-set.set c.in_ok-number_of.field-0 before.part before.within c.loop-letter-test.true before.place step
    numbered in
    let place = before.place in
    let many = length_push c.loop-letter.next.items c.in_ok-number_of.field-0 in
    record {
      part = rw c.in_ok-push-2.ensures.items
          (part_numbered nfa old c.number_of.new.sets.items c.loop-letter.next.items c.states.state c.loop-letter.letter
          c.in_ok-set.set c.in_ok-number_of.field-0 before.part before.within c.loop-letter-test.true before.place step
          numbered);
      place = rw c.in_ok-push-2.ensures.items (omega arith);
      flags = flags_kept old c.number_of.new.sets.items nfa.accepting c.push.new.self.items c.in_ok-set.set
          c.in_ok-number_of.field-0 before.flags (omega arith) numbered;
      many = before.many;
      within = omega arith;
      limit = omega arith;
    }

pub returns-clause-dfa : goal.returns-clause-dfa
returns-clause-dfa c =
    let nfa = c.args.nfa.now in
    let end = c.states.invariant in
    let within = end.within in
    let last : c.states.state ≡ length c.states.sets.items = omega arith in
    record {
      some = end.part.some;
      table = end.place ∙ ap (λ n. n * nfa.letters) last;
      arrows = arrows_within nfa c.states.sets.items c.states.next.items end.part;
      flags = end.many ∙ last;
    }

pub returns-clause-accepts : goal.returns-clause-accepts
returns-clause-accepts c word over =
    let nfa = c.args.nfa.now in
    let sets = c.states.sets.items in
    let next = c.states.next.items in
    let end = c.states.invariant in
    let within = end.within in
    let last : c.states.state ≡ length sets = omega arith in
    let full = end.place ∙ ap (λ n. n * nfa.letters) last in
    let at_end = end_from nfa.letters next 0 word in
    let inside = end_within nfa sets next end.part full word over in
    let many = end.many in
    accepted_told nfa word (at sets at_end) _ (end_set nfa sets next end.part full word over)
    (end.flags.tell at_end (omega arith))

pub returns-clause-sets : goal.returns-clause-sets
returns-clause-sets c word over =
    let nfa = c.args.nfa.now in
    let sets = c.states.sets.items in
    let end = c.states.invariant in
    let within = end.within in
    let last : c.states.state ≡ length sets = omega arith in
    end_set nfa sets c.states.next.items end.part (end.place ∙ ap (λ n. n * nfa.letters) last) word over

pub returns-clause-useful : goal.returns-clause-useful
returns-clause-useful c s s_in =
    let nfa = c.args.nfa.now in
    let sets = c.states.sets.items in
    let end = c.states.invariant in
    let within = end.within in
    let last : c.states.state ≡ length sets = omega arith in
    useful nfa sets c.states.next.items end.part (end.place ∙ ap (λ n. n * nfa.letters) last) s s_in

pub states-init : goal.states-init
states-init c = search rules steps 2000000
