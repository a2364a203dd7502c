use Rattle.std.proofs.Common.{arith}
use Rattle.std.specs.Int.Count.{ones}
use Rattle.bitwords.proofs.TwoRows.{sum_longest}
use Rattle.bitwords.proofs.joins.count_unlike.Goals as goal

pub returns-clause-ones : goal.returns-clause-ones
returns-clause-ones g c =
    rw (sum_longest ones g.O.WordOp.joined g.O.WordOp.KEEP g.O.WordOp.TAKE c.args.a.now c.args.b.now) (grind arith)

pub returns-clause-cost : goal.returns-clause-cost
returns-clause-cost g c = grind arith
