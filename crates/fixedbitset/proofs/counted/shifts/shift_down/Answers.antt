use Rattle.std.proofs.Common.{rules, ◌∙◌}
use Rattle.fixedbitset.proofs.Words.{changed_clean, changed_value}
use Rattle.fixedbitset.proofs.counted.shifts.shift_down.Goals as goal

pub invariant_of-set : goal.invariant_of-set
invariant_of-set c =
    changed_clean c.set.inside.words _ _ _ _ c.set.invariant c.shift_down.ensures.value (search rules)

pub returns-clause-value : goal.returns-clause-value
returns-clause-value c =
    changed_value c.set.inside.words _ _ _ _ c.set.invariant c.shift_down.ensures.value (search rules)
    ∙ (search rules steps 800000)
