use Rattle.std.proofs.Common.{rules, ◌∙◌}
use Rattle.fixedbitset.proofs.Words.{changed_clean, changed_value}
use Rattle.fixedbitset.proofs.counted.shifts.copy_range.Goals as goal

pub invariant_of-set : goal.invariant_of-set
invariant_of-set g c =
    changed_clean c.set.inside.words _ _ _ _ c.set.invariant c.copy_range.ensures.value (search rules)

pub returns-clause-value : goal.returns-clause-value
returns-clause-value g c =
    changed_value c.set.inside.words _ _ _ _ c.set.invariant c.copy_range.ensures.value (search rules)
    ∙ (search rules steps 2000000)
