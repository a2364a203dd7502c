use Rattle.std.proofs.Common.{rules, ◌∙◌}
use Rattle.fixedbitset.proofs.Words.{viewed_length}
use Rattle.fixedbitset.proofs.Words.{changed_clean, changed_value}
use Rattle.fixedbitset.proofs.counted.shifts.shift_up.Goals as goal

pub returns-clause-cost : goal.returns-clause-cost
returns-clause-cost c = cc (c.shift_up.ensures.cost, viewed_length _ _ _ c.set.view_is)

pub invariant_of-set : goal.invariant_of-set
invariant_of-set c =
    changed_clean c.set.inside.words _ _ _ _ c.set.invariant c.shift_up.ensures.value (search rules)

pub returns-clause-value : goal.returns-clause-value
returns-clause-value c =
    changed_value c.set.inside.words _ _ _ _ c.set.invariant c.shift_up.ensures.value (search rules) ∙ (search rules)
