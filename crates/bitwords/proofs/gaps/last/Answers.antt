use Rattle.std.proofs.Common.{rules, ◌≡◌, ◌+◌, ◌-◌, ◌≤◌, inl, inr, Some, None, ◌∙◌, arith}
use Rattle.std.proofs.lemmas.Bool.{cases_lt}
use Rattle.std.proofs.lemmas.Bool.Decides.{nat_tests}
use Rattle.bitwords.specs.CountFacts.{count-mono}
use Rattle.bitwords.specs.Rows.{has_bit}
use Rattle.bitwords.specs.Runs.{begins}
use Rattle.bitwords.proofs.LastRooms.{none_behind_end, none_behind_taken, none_behind_run, room_before, no_last_room}
use Rattle.bitwords.proofs.LastRooms.{lanes_covered}
use Rattle.bitwords.proofs.LastRooms.{is_taken, clear_behind, clear_below, taken_behind, taken_below, one_begins}
use Rattle.bitwords.proofs.gaps.last.Goals as goal

pub loop-taken-init : goal.loop-taken-init
loop-taken-init c = record {
  within = omega arith;
  none = none_behind_end c.args.words.now c.args.end c.args.count;
  spent = omega arith;
  covered = grind (arith, nat_tests);
}

pub returns-in_default-clause-gap : goal.returns-in_default-clause-gap
returns-in_default-clause-gap c =
    let ws = c.args.words.now in
    let stop = c.loop-taken.stop in
    let count = c.args.count in
    let loop = c.loop-taken.invariant in
    elim (cases_lt stop count) [
      | inl short ↦ (let none : c.checked_sub.result ≡ None = search rules in
          none ∙ no_last_room ws c.args.end count stop short loop.none)
      | inr enough ↦ (let some : c.checked_sub.result ≡ Some (stop - count) = search rules in
          some
          ∙ room_before ws c.args.end count stop loop.within enough
          (λ i _ to. clear_below ws stop c.in_default.ensures.none i to) loop.none)
    ]

pub returns-then-count-stop-clause-gap : goal.returns-then-count-stop-clause-gap
returns-then-count-stop-clause-gap c =
    let ws = c.args.words.now in
    let stop = c.loop-taken.stop in
    let loop = c.loop-taken.invariant in
    room_before ws c.args.end c.args.count stop loop.within (omega (arith, c.if-count-stop.true))
    (λ i from to. clear_behind ws stop c.in-Some.taken c.in-Some.ensures.found i
    (omega (arith, c.if-count-stop.true, from)) to) loop.none

pub returns-in_err-stop-clause-gap : goal.returns-in_err-stop-clause-gap
returns-in_err-stop-clause-gap c =
    let ws = c.args.words.now in
    let stop = c.loop-taken.stop in
    let p = c.in-Some.taken in
    let found = c.in-Some.ensures.found in
    let some : 1 ≤ c.args.count = omega (arith, c.if-count-stop.false, found.below) in
    rw c.from_residual.ensures
    (no_last_room ws c.args.end c.args.count 0 some
    (none_behind_run ws c.args.end c.args.count some 0 p (taken_below ws p c.in_err-stop.ensures.none)
    (none_behind_taken ws c.args.end c.args.count stop p (omega (arith, c.if-count-stop.false))
    (is_taken ws stop p found) c.loop-taken.invariant.none)))

pub loop-taken-preserved : goal.loop-taken-preserved
loop-taken-preserved c =
    let ws = c.args.words.now in
    let stop = c.loop-taken.stop in
    let p = c.in-Some.taken in
    let z = c.in_ok-stop.field-0 in
    let loop = c.loop-taken.invariant in
    let found = c.in-Some.ensures.found in
    let clear = c.in_ok-stop.ensures.found in
    let some : 1 ≤ c.args.count = omega (arith, c.if-count-stop.false, found.below) in
    record {
      within = omega (arith, loop.within, found.below, clear.below);
      none =
          none_behind_run ws c.args.end c.args.count some (z + 1) p (taken_behind ws p z clear)
          (none_behind_taken ws c.args.end c.args.count stop p (omega (arith, c.if-count-stop.false))
          (is_taken ws stop p found) loop.none);
      spent =
          omega (
            arith,
            loop.spent,
            found.below,
            clear.below,
            c.in-Some.ensures.cost,
            c.in_ok-stop.ensures.cost,
            one_begins ws p z (is_taken ws stop p found) clear,
            count-mono (begins (has_bit ws)) (p + 1) stop (omega (arith, found.below)),
          );
      covered =
          omega (
            arith,
            loop.covered,
            c.in-Some.ensures.cost,
            c.in_ok-stop.ensures.cost,
            lanes_covered p p stop c.args.end (omega arith) (omega (arith, found.below)) loop.within
                (omega (arith, found.below)),
            lanes_covered z (z + 1) p c.args.end (omega arith) (omega (arith, clear.below))
                (omega (arith, loop.within, found.below)) (omega (arith, clear.below)),
          );
    }

-- the last search went down to the end of the set position before the gap
pub returns-then-count-stop-clause-found : goal.returns-then-count-stop-clause-found
returns-then-count-stop-clause-found c =
    let stop = c.loop-taken.stop in
    let p = c.in-Some.taken in
    let room = c.if-count-stop.true in
    omega (
      arith,
      c.loop-taken.invariant.covered,
      c.in-Some.ensures.cost,
      lanes_covered p (stop - c.args.count) stop c.args.end (omega (arith, room)) (omega arith)
          c.loop-taken.invariant.within (omega (arith, room)),
    )
