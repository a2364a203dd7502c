use Rattle.fixedbitset.proofs.JoinedValues.{left_length, union_longer}
use Rattle.fixedbitset.proofs.Words.{viewed_length, given_back, changed_clean}
use Rattle.fixedbitset.proofs.JoinedChanges.{union_changes}
use Rattle.std.proofs.Common.{rules}
use Rattle.fixedbitset.proofs.counted.changes.union_with_difference.Goals as goal

pub invariant_of-set : goal.invariant_of-set
invariant_of-set c =
    changed_clean c.set.inside.words _ _ _ _ c.set.invariant c.union_with_difference.ensures.value (search rules)

pub returns-then-len-clause-changed : goal.returns-then-len-clause-changed
returns-then-len-clause-changed c = search rules steps 300000

pub returns-clause-changed : goal.returns-clause-changed
returns-clause-changed c =
    search (rules, union_longer, union_changes, given_back, viewed_length, left_length) steps 300000
