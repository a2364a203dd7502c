use Rattle.std.proofs.Common.{arith}
use Rattle.fixedbitset.proofs.set.FixedBitSet.bitor.Goals as goal

pub returns : goal.returns
returns c = grind arith
