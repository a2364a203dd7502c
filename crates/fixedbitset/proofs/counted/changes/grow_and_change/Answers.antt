use Rattle.std.proofs.Common.{rules, arith}
use Rattle.fixedbitset.proofs.JoinedValues.{grown_over, grown_length}
use Rattle.fixedbitset.proofs.Words.{given_back, viewed_length, changed_clean}
use Rattle.fixedbitset.proofs.counted.changes.grow_and_change.Goals as goal

pub invariant_of-set : goal.invariant_of-set
invariant_of-set g c =
    changed_clean c.set.inside.words _ _ _ _ c.set.invariant c.join_with_change.ensures.value (search rules)

pub returns-clause-cost : goal.returns-clause-cost
returns-clause-cost g c = grind (arith, grown_over, grown_length, given_back, viewed_length) steps 800000
