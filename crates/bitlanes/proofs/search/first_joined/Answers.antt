use Rattle.std.proofs.Common.{arith}
use Rattle.std.specs.Simd.Lanes.{zip2}
use Rattle.std.proofs.lemmas.List.{get_or_past}
use Rattle.bitlanes.proofs.Folding.{zero_in_lane}
use Rattle.bitlanes.proofs.Zipping.{length_joined}
use Rattle.bitlanes.proofs.search.first_joined.Goals as goal

pub returns-clause-none : goal.returns-clause-none
returns-clause-none g c i _ =
    let joined = zip2 g.O.WordOp.joined c.args.a.now c.args.b.now in
    grind (
      arith,
      c.loop-at.invariant.zeros i,
      get_or_past joined i 0,
      length_joined g.O.WordOp.joined c.args.a.now c.args.b.now,
    )

pub loop-at-preserved : goal.loop-at-preserved
loop-at-preserved g c = record { zeros = λ i below. grind (arith, c.loop-at.invariant.zeros i); cost = grind arith }

pub returns-clause-exact_if_none : goal.returns-clause-exact_if_none
returns-clause-exact_if_none g c = grind arith

pub loop-lane-preserved : goal.loop-lane-preserved
loop-lane-preserved g c = record {
  within = omega arith;
  zeros = λ i below. grind (arith, c.loop-lane.invariant.zeros i, zero_in_lane);
  cost = omega arith;
}
