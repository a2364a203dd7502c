use Rattle.std.proofs.Common.{rules}
use Rattle.fixedbitset.proofs.Words.{changed_clean}
use Rattle.fixedbitset.proofs.JoinedChanges.{union_grown_changes}
use Rattle.fixedbitset.proofs.counted.changes.union_with_change.Goals as goal

pub invariant_of-set : goal.invariant_of-set
invariant_of-set c =
    changed_clean c.set.inside.words _ _ _ _ c.set.invariant c.union_with_change.ensures.value (search rules)

pub returns-then-len-clause-changed : goal.returns-then-len-clause-changed
returns-then-len-clause-changed c = search (rules, union_grown_changes) steps 300000
