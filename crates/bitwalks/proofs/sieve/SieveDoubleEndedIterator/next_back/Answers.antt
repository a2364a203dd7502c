use Rattle.std.proofs.Common.{ap, sym, ◌∙◌, ◌+◌, arith, length, length-append, [], ◌∷◌}
use Rattle.bitwords.specs.CallFacts.{takes_back}
use Rattle.bitwalks.specs.SieveFacts.{last_passes, last_fails, nothing_left}
use Rattle.bitwalks.proofs.sieve.SieveDoubleEndedIterator.next_back.Goals as goal

pub returns-then-passes-clause-steps : goal.returns-then-passes-clause-steps
returns-then-passes-clause-steps g c =
    let before = c.loop-position.invariant in
    let call = c.in-Some.ensures.steps in
    let passes = ap g.C.Choice.passes (sym c.is_set.ensures) ∙ sym c.passes.ensures ∙ c.if-passes.true in
    let fewer = ap length call.0 ∙ length-append _ (c.in-Some.position ∷ []) in
    let takes = takes_back before.calls 1 _ _ _ before.takes call.1 in (
      last_passes _ _ _ before.same _ _ call.0 passes,
      record { calls = before.calls + 1; asks = omega (arith, before.asked, before.each, fewer); takes = takes },
    )

pub loop-position-preserved : goal.loop-position-preserved
loop-position-preserved g c =
    let before = c.loop-position.invariant in
    let call = c.in-Some.ensures.steps in
    let fails = ap g.C.Choice.passes (sym c.is_set.ensures) ∙ sym c.passes.ensures ∙ c.if-passes.false in
    let fewer = ap length call.0 ∙ length-append _ (c.in-Some.position ∷ []) in
    record {
      same = last_fails _ _ _ before.same _ _ call.0 fails;
      asked = omega (arith, before.asked, fewer);
      calls = before.calls + 1;
      each = omega (arith, before.each, fewer);
      takes = takes_back before.calls 1 _ _ _ before.takes call.1;
    }

pub returns-clause-steps : goal.returns-clause-steps
returns-clause-steps g c =
    let before = c.loop-position.invariant in
    let call = c.in_default.ensures.steps in
    let none = ap length call.0.0 in
    let also = ap length call.0.1 in
    let takes = takes_back before.calls 1 _ _ _ before.takes call.1 in (
      nothing_left _ _ _ _ before.same call.0.0 call.0.1,
      record { calls = before.calls + 1; asks = omega (arith, before.asked, before.each, none, also); takes = takes },
    )
