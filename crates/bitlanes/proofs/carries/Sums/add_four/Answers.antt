use Rattle.std.proofs.Common.{arith, count_ones}
use Rattle.std.specs.Simd.Lanes.{zip2}
use Rattle.bitlanes.proofs.Counting.{sum_chunk}
use Rattle.bitlanes.proofs.carries.Sums.add_four.Goals as goal

pub returns-clause-ones : goal.returns-clause-ones
returns-clause-ones g c =
    let joined = zip2 g.O.WordOp.joined c.args.a.now c.args.b.now in
    omega (arith, sum_chunk count_ones c.args.at 8 8 joined)
