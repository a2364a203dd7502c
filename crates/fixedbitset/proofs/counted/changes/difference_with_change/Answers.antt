use Rattle.fixedbitset.proofs.Words.{viewed_length, given_back, changed_clean, changed_value}
use Rattle.std.proofs.Common.{rules, ◌∙◌}
use Rattle.fixedbitset.proofs.counted.changes.difference_with_change.Goals as goal

pub invariant_of-set : goal.invariant_of-set
invariant_of-set c =
    changed_clean c.set.inside.words _ _ _ _ c.set.invariant c.difference_with_change.ensures.value (search rules)

pub returns-clause-value : goal.returns-clause-value
returns-clause-value c =
    changed_value c.set.inside.words _ _ _ _ c.set.invariant c.difference_with_change.ensures.value (search rules)
    ∙ (search rules)

pub returns-clause-changed : goal.returns-clause-changed
returns-clause-changed c = search (rules, given_back, viewed_length) steps 300000
