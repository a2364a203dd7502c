use Rattle.std.proofs.Common.{arith}
use Rattle.bitwalks.proofs.walks.Ones.within.Goals as goal

pub returns : goal.returns
returns c = grind arith
