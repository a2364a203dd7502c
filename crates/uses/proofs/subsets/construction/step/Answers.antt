use Rattle.std.proofs.Common.{◌∙◌, [], sym, subst}
use Rattle.std.proofs.lemmas.Bool.{true≢false}
use Rattle.uses.specs.Subsets.{IsStep}
use Rattle.uses.proofs.Steps.{step_none, step_kept, step_taken}
use Rattle.uses.proofs.subsets.construction.step.Goals as goal
use Rattle.uses.proofs.subsets.construction.step.Goals.{then-letter-by+then-contains, else-letter-by}
use Rattle.uses.proofs.subsets.construction.step.Goals.{else-letter-by-via-then-letter-by+else-contains}
use Rattle.uses.proofs.subsets.construction.step.Goals.{else-letter-by-via-else-letter-by}

pub loop-from-init : goal.loop-from-init
loop-from-init c =
    subst (λ new. IsStep c.args.nfa.now.states [] c.args.set.now c.args.by new) (sym c.in_ok-new.ensures)
    (step_none _ _ _)

pub loop-from-preserved : goal.loop-from-preserved
loop-from-preserved c =
    let nfa = c.args.nfa.now in
    let read = c.deref-from-items.ensures.value in
    let kept = step_kept nfa.states nfa.letters nfa.edges.items _ c.args.set.now c.args.by c.loop-from.from-index
    c.loop-from.new (0, 0, 0) read c.loop-from-test.true c.loop-from.invariant in
    let step = IsStep nfa.states _ c.args.set.now c.args.by in
    elim c.if-letter-by.branch [
      | then-letter-by+then-contains w ↦
          subst step (sym (w.new-is ∙ w.insert.ensures))
          (step_taken nfa.states nfa.letters nfa.edges.items _ c.args.set.now c.args.by c.loop-from.from-index
          c.loop-from.new (0, 0, 0) read c.loop-from-test.true c.loop-from.invariant
          c.requires.edges w.if-letter-by.true (sym w.contains.ensures ∙ w.if-contains.true))
      | else-letter-by w ↦
          subst step (sym w.new-is)
          (kept
          (elim w.else-letter-by.branch [
            | else-letter-by-via-then-letter-by+else-contains w' ↦
                λ both. true≢false (sym both.1 ∙ sym w'.contains.ensures ∙ w'.if-contains.false)
            | else-letter-by-via-else-letter-by w' ↦ λ both. w'.if-letter-by.false both.0
          ]))
    ]
