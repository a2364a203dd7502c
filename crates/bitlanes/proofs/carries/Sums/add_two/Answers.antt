use Rattle.std.proofs.Common.{sum_by, ap, arith, count_ones}
use Rattle.std.specs.Simd.Lanes.{zip2}
use Rattle.bitlanes.proofs.Counting.{sum_chunk}
use Rattle.bitlanes.proofs.carries.Sums.add_two.Goals as goal

pub returns-clause-ones : goal.returns-clause-ones
returns-clause-ones g c =
    let joined = zip2 g.O.WordOp.joined c.args.a.now c.args.b.now in
    omega (
      arith,
      sum_chunk count_ones c.args.at 4 4 joined,
      ap (sum_by count_ones) c.lane_at-first.ensures,
      ap (sum_by count_ones) c.lane_at-second.ensures,
    )
