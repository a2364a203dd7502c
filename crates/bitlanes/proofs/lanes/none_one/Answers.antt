use Rattle.std.proofs.Common.{arith, ◌==◌, ◌∙◌, ℕ, refl, rules, sym}
use Rattle.bitlanes.proofs.Folding.{fails_within}
use Rattle.bitlanes.proofs.Stopping.{stops_in_lane}
use Rattle.bitlanes.proofs.lanes.none_one.Goals as goal

pub returns-then-not-is_zero-clause-zero : goal.returns-then-not-is_zero-clause-zero
returns-then-not-is_zero-clause-zero c =
    grind (arith, fails_within (λ (word : ℕ). word == 0) c.loop-at.at 4 c.args.a.now)

pub loop-at-init : goal.loop-at-init
loop-at-init c = search rules steps 100000

pub returns-then-not-is_zero-clause-stops : goal.returns-then-not-is_zero-clause-stops
returns-then-not-is_zero-clause-stops c = search rules steps 300000

pub returns-then-not-is_zero-clause-exact_if_stopped : goal.returns-then-not-is_zero-clause-exact_if_stopped
returns-then-not-is_zero-clause-exact_if_stopped c =
    stops_in_lane c.args.steps.now c.loop-at.steps c.loop-at.at c.args.a.now _ c.loop-at.invariant.cost
    c.loop-at.invariant.zero refl (sym c.is_zero.ensures ∙ c.if-not-is_zero.true) _ c.tick.ensures
