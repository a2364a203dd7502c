use Rattle.std.proofs.Common.{arith}
use Rattle.bitwalks.proofs.pairs.SymmetricDifference.over.Goals as goal

pub returns : goal.returns
returns c = grind arith
