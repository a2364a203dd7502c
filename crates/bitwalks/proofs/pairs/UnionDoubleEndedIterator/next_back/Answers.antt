use Rattle.std.proofs.Common.{arith}
use Rattle.bitwalks.proofs.pairs.UnionDoubleEndedIterator.next_back.Goals as goal

pub returns-clause-steps : goal.returns-clause-steps
returns-clause-steps c = grind arith
