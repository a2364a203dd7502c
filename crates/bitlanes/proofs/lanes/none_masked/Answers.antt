use Rattle.std.proofs.Common.{arith, ◌==◌, ◌∙◌, ℕ, map, refl, rules, sym}
use Rattle.bitlanes.proofs.Folding.{fails_within, all_lane}
use Rattle.bitlanes.proofs.Filling.{all_mapped_part}
use Rattle.bitlanes.proofs.Stopping.{stops_in_lane}
use Rattle.bitlanes.proofs.lanes.none_masked.Goals as goal

pub loop-at-init : goal.loop-at-init
loop-at-init g c = record { zero = refl; within = omega arith; cost = omega arith }

pub returns-then-not-is_zero-clause-stops : goal.returns-then-not-is_zero-clause-stops
returns-then-not-is_zero-clause-stops g c = λ _. omega (arith, c.tick.ensures, c.loop-at.invariant.cost)

pub returns-then-not-is_zero-clause-zero : goal.returns-then-not-is_zero-clause-zero
returns-then-not-is_zero-clause-zero g c =
    grind (
      arith,
      fails_within (λ (word : ℕ). word == 0) c.loop-at.at 4 (map (g.O.WordOp.joined c.args.mask) c.args.words.now),
    )

pub returns-then-rest-gt0-clause-zero : goal.returns-then-rest-gt0-clause-zero
returns-then-rest-gt0-clause-zero g c = search (rules, all_lane, all_mapped_part) steps 300000

pub returns-then-not-is_zero-clause-exact_if_stopped : goal.returns-then-not-is_zero-clause-exact_if_stopped
returns-then-not-is_zero-clause-exact_if_stopped g c =
    stops_in_lane c.args.steps.now c.loop-at.steps c.loop-at.at (map (g.O.WordOp.joined c.args.mask) c.args.words.now) _
    c.loop-at.invariant.cost c.loop-at.invariant.zero c.masked_lane_at.ensures
    (sym c.is_zero.ensures ∙ c.if-not-is_zero.true) _ c.tick.ensures
