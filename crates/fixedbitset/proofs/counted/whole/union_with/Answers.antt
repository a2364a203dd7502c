use Rattle.std.proofs.Common.{rules}
use Rattle.fixedbitset.proofs.Words.{changed_clean}
use Rattle.fixedbitset.proofs.counted.whole.union_with.Goals as goal

pub invariant_of-set : goal.invariant_of-set
invariant_of-set c =
    changed_clean c.set.inside.words _ _ _ _ c.set.invariant c.union_with.ensures.value (search rules)

pub returns-clause-cost : goal.returns-clause-cost
returns-clause-cost c = search rules steps 800000
