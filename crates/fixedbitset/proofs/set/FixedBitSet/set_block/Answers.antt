use Rattle.std.proofs.Common.{rules, ◌∙◌}
use Rattle.fixedbitset.proofs.Words.{changed_clean, changed_value}
use Rattle.fixedbitset.proofs.set.FixedBitSet.set_block.Goals as goal

pub invariant_of-self : goal.invariant_of-self
invariant_of-self c =
    changed_clean c.self.inside.words _ _ _ _ c.self.invariant c.set_block.ensures (search rules)

pub returns : goal.returns
returns c =
    changed_value c.self.inside.words _ _ _ _ c.self.invariant c.set_block.ensures (search rules)
    ∙ (search rules steps 800000)
