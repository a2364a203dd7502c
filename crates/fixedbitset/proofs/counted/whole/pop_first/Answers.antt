use Rattle.std.proofs.Common.{rules}
use Rattle.fixedbitset.proofs.Changes.{popped}
use Rattle.fixedbitset.proofs.Words.{changed_clean}
use Rattle.fixedbitset.proofs.counted.whole.pop_first.Goals as goal

pub invariant_of-set : goal.invariant_of-set
invariant_of-set c =
    let done = c.pop_first.ensures in
    changed_clean c.set.inside.words _ _ _ _ c.set.invariant (popped _ _ _ done.taken done.unchanged).1 (search rules)
