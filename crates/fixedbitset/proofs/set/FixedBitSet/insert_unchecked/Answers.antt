use Rattle.std.proofs.Common.{rules}
use Rattle.std.proofs.Common.{arith}
use Rattle.fixedbitset.proofs.Words.{given_back, viewed_length}
use Rattle.fixedbitset.proofs.Words.{changed_clean}
use Rattle.fixedbitset.proofs.set.FixedBitSet.insert_unchecked.Goals as goal

pub returns : goal.returns
returns c = grind (arith, given_back, viewed_length)

pub invariant_of-self : goal.invariant_of-self
invariant_of-self c =
    changed_clean c.self.inside.words _ _ _ _ c.self.invariant c.insert.ensures (search rules)
