use Rattle.std.proofs.Common.{rules, ◌∙◌}
use Rattle.fixedbitset.proofs.Words.{changed_clean, changed_value, given_back, viewed_length}
use Rattle.fixedbitset.proofs.counted.shifts.union_with_own_shift.Goals as goal

pub invariant_of-set : goal.invariant_of-set
invariant_of-set c =
    changed_clean c.set.inside.words _ _ _ _ c.set.invariant c.union_with_own_shift.ensures.value (search rules)

pub returns-clause-value : goal.returns-clause-value
returns-clause-value c =
    changed_value c.set.inside.words _ _ _ _ c.set.invariant c.union_with_own_shift.ensures.value (search rules)
    ∙ (search rules)

pub returns-clause-cost : goal.returns-clause-cost
returns-clause-cost c = search (rules, given_back, viewed_length) steps 2000000
