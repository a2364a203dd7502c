use Rattle.fixedbitset.proofs.Words.{viewed_length, given_back, changed_clean, changed_value}
use Rattle.std.proofs.Common.{rules, ◌∙◌}
use Rattle.fixedbitset.proofs.counted.shifts.union_with_shifted.Goals as goal

pub invariant_of-set : goal.invariant_of-set
invariant_of-set c =
    changed_clean c.set.inside.words _ _ _ _ c.set.invariant c.union_with_shifted.ensures.value (search rules)

pub returns-clause-value : goal.returns-clause-value
returns-clause-value c =
    changed_value c.set.inside.words _ _ _ _ c.set.invariant c.union_with_shifted.ensures.value (search rules)
    ∙ (search rules)

pub returns-clause-cost : goal.returns-clause-cost
returns-clause-cost c = search (rules, given_back, viewed_length) steps 2000000
