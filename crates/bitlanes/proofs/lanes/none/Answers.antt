use Rattle.std.proofs.Common.{arith, ◌≡◌, ◌+◌, ◌-◌, ◌==◌, ◌∙◌, ℕ, List, length, refl, sym}
use Rattle.std.specs.Simd.Lanes.{zip2}
use Rattle.bitlanes.proofs.Filling.{all_part}
use Rattle.bitlanes.proofs.Folding.{fails_within}
use Rattle.bitlanes.proofs.Stopping.{stops_in_lane, stops_in_part, none_left}
use Rattle.bitlanes.proofs.Zipping.{cut_joined, length_joined}
use Rattle.bitlanes.proofs.lanes.none.Goals as goal

pub loop-at-init : goal.loop-at-init
loop-at-init g c = record { zero = refl; within = omega arith; cost = omega arith }

pub returns-then-not-is_zero-clause-stops : goal.returns-then-not-is_zero-clause-stops
returns-then-not-is_zero-clause-stops g c = λ _. omega (arith, c.tick-in-loop-at.ensures, c.loop-at.invariant.cost)

pub returns-then-not-is_zero-clause-zero : goal.returns-then-not-is_zero-clause-zero
returns-then-not-is_zero-clause-zero g c =
    let f = g.O.WordOp.joined in
    let cut = cut_joined f c.min-common.result c.args.a.now c.args.b.now c.min-common.ensures in
    grind (
      arith,
      rw cut at c.lane_at-in-loop-at.ensures,
      fails_within (λ (word : ℕ). word == 0) c.loop-at.at 4 (zip2 f c.args.a.now c.args.b.now),
    )

pub returns-then-rest-gt0-clause-zero : goal.returns-then-rest-gt0-clause-zero
returns-then-rest-gt0-clause-zero g c =
    let f = g.O.WordOp.joined in
    let w = c.min-common.result in
    let all : List ℕ = zip2 f c.args.a.now c.args.b.now in
    let cut = cut_joined f w c.args.a.now c.args.b.now c.min-common.ensures in
    let long : c.loop-at.at + (w - c.loop-at.at) ≡ length all =
    omega (arith, length_joined f c.args.a.now c.args.b.now, c.min-common.ensures, c.loop-at.invariant.within) in
    rw (c.is_zero-then-rest-gt0.ensures, c.joined_part_at.ensures, cut)
    (all_part c.loop-at.at (w - c.loop-at.at) all long (rw cut at c.loop-at.invariant.zero))

pub returns-then-not-is_zero-clause-exact_if_stopped : goal.returns-then-not-is_zero-clause-exact_if_stopped
returns-then-not-is_zero-clause-exact_if_stopped g c =
    let f = g.O.WordOp.joined in
    let cut = cut_joined f c.min-common.result c.args.a.now c.args.b.now c.min-common.ensures in
    stops_in_lane c.args.steps.now c.loop-at.steps c.loop-at.at (zip2 f c.args.a.now c.args.b.now) _
    c.loop-at.invariant.cost (rw cut at c.loop-at.invariant.zero) (rw cut at c.lane_at-in-loop-at.ensures)
    (sym c.is_zero-in-loop-at.ensures ∙ c.if-not-is_zero.true) _ c.tick-in-loop-at.ensures

pub returns-then-rest-gt0-clause-exact_if_stopped : goal.returns-then-rest-gt0-clause-exact_if_stopped
returns-then-rest-gt0-clause-exact_if_stopped g c =
    let f = g.O.WordOp.joined in
    let cut = cut_joined f c.min-common.result c.args.a.now c.args.b.now c.min-common.ensures in
    stops_in_part c.args.steps.now c.loop-at.steps c.loop-at.at (zip2 f c.args.a.now c.args.b.now)
    c.loop-at.invariant.cost (rw cut at c.loop-at.invariant.zero)
    (omega (arith, length_joined f c.args.a.now c.args.b.now, c.min-common.ensures, c.loop-at-test.false)) _
    c.tick-then-rest-gt0.ensures

pub returns-clause-exact_if_stopped : goal.returns-clause-exact_if_stopped
returns-clause-exact_if_stopped g c =
    let f = g.O.WordOp.joined in
    let cut = cut_joined f c.min-common.result c.args.a.now c.args.b.now c.min-common.ensures in
    λ k first. absurd (none_left c.loop-at.at (zip2 f c.args.a.now c.args.b.now)
    (omega (arith, length_joined f c.args.a.now c.args.b.now, c.min-common.ensures, c.if-rest-gt0.false))
    (rw cut at c.loop-at.invariant.zero) k first)
