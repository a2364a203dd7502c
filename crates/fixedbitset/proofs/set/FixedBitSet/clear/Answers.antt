use Rattle.std.proofs.Common.{rules, ap, ◌∙◌}
use Rattle.fixedbitset.specs.Bits.{empty}
use Rattle.fixedbitset.proofs.Words.{changed_clean, changed_value, viewed_length}
use Rattle.fixedbitset.proofs.set.FixedBitSet.clear.Goals as goal

pub invariant_of-self : goal.invariant_of-self
invariant_of-self c =
    changed_clean c.self.inside.words _ _ _ _ c.self.invariant c.clear.ensures.value (search rules steps 100000)

pub returns : goal.returns
returns c =
    changed_value c.self.inside.words _ _ _ _ c.self.invariant c.clear.ensures.value (search rules)
    ∙ ap empty (viewed_length _ _ _ c.self.view_is)
