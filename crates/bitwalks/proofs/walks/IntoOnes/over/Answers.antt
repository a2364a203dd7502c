use Rattle.std.proofs.Common.{arith}
use Rattle.bitwalks.proofs.walks.IntoOnes.over.Goals as goal

pub returns-clause-walk : goal.returns-clause-walk
returns-clause-walk c = grind arith
