use Rattle.std.proofs.Common.{rules}
use Rattle.fixedbitset.proofs.Words.{changed_clean, given_back, viewed_length}
use Rattle.fixedbitset.proofs.JoinedValues.{symmetric_difference_grown, symmetric_difference_longer}
use Rattle.fixedbitset.proofs.counted.whole.symmetric_difference_with.Goals as goal

pub invariant_of-set : goal.invariant_of-set
invariant_of-set c =
    changed_clean c.set.inside.words _ _ _ _ c.set.invariant c.symmetric_difference_with.ensures.value (search rules)

pub symmetric_difference_with-requires : goal.symmetric_difference_with-requires
symmetric_difference_with-requires c =
    search (rules, symmetric_difference_grown, symmetric_difference_longer, given_back, viewed_length) steps 300000

pub returns-clause-cost : goal.returns-clause-cost
returns-clause-cost c = search rules steps 800000
