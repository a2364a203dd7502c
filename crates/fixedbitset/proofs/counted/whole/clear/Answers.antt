use Rattle.std.proofs.Common.{rules}
use Rattle.fixedbitset.proofs.Words.{changed_clean, given_back, viewed_length}
use Rattle.fixedbitset.proofs.counted.whole.clear.Goals as goal

pub invariant_of-set : goal.invariant_of-set
invariant_of-set c =
    changed_clean c.set.inside.words _ _ _ _ c.set.invariant c.clear.ensures.value (search rules)

pub returns-clause-cost : goal.returns-clause-cost
returns-clause-cost c = search (rules, given_back, viewed_length) steps 800000
