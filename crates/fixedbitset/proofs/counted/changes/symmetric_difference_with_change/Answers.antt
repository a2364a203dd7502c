use Rattle.std.proofs.Common.{rules}
use Rattle.fixedbitset.proofs.Words.{changed_clean}
use Rattle.fixedbitset.proofs.counted.changes.symmetric_difference_with_change.Goals as goal

pub invariant_of-set : goal.invariant_of-set
invariant_of-set c =
    changed_clean c.set.inside.words _ _ _ _ c.set.invariant
    c.symmetric_difference_with_change.ensures.value (search rules)
