use Rattle.std.proofs.Common.{arith}
use Rattle.fixedbitset.proofs.Changes.{none_past}
use Rattle.fixedbitset.proofs.set.FixedBitSet.grow_and_put.Goals as goal

pub returns-then-bits-len-clause-before : goal.returns-then-bits-len-clause-before
returns-then-bits-len-clause-before c =
    none_past c.args.self.now c.args.bits (omega (arith, c.len.ensures, c.if-bits-len.true))
