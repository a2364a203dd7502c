use Rattle.std.proofs.Common.{arith}
use Rattle.bitwalks.proofs.walks.OnesDoubleEndedIterator.next_back.Goals as goal

pub returns-clause-steps : goal.returns-clause-steps
returns-clause-steps c = grind arith
