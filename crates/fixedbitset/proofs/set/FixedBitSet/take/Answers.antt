use Rattle.std.proofs.Common.{rules}
use Rattle.fixedbitset.proofs.Words.{changed_clean, given_back, viewed_length}
use Rattle.fixedbitset.proofs.set.FixedBitSet.take.Goals as goal

pub invariant_of-self : goal.invariant_of-self
invariant_of-self c =
    changed_clean c.self.inside.words _ _ _ _ c.self.invariant c.take.ensures.value (search rules)

pub returns-clause-after : goal.returns-clause-after
returns-clause-after c = search (rules, given_back, viewed_length) steps 2000000
