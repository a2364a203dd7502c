use Rattle.std.proofs.Common.{arith}
use Rattle.bitwalks.proofs.pairs.UnionIterator.next.Goals as goal

pub returns-clause-steps : goal.returns-clause-steps
returns-clause-steps c = grind arith
