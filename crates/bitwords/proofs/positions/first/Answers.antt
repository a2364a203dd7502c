use Rattle.std.proofs.Common.{arith}
use Rattle.bitwords.proofs.FirstAndLast.{first_position}
use Rattle.bitwords.proofs.positions.first.Goals as goal

pub returns-clause-value : goal.returns-clause-value
returns-clause-value c = grind (arith, first_position)
