use Rattle.std.proofs.Common.{arith, ◌∙◌}
use Rattle.fixedbitset.proofs.Words.{viewed_length}
use Rattle.fixedbitset.proofs.set.FixedBitSet.difference_of.Goals as goal

pub difference_of-requires : goal.difference_of-requires
difference_of-requires c =
    viewed_length _ _ _ c.self.view_is
    ∙ omega (arith, c.in_ok-fit.ensures.ok, c.as_bits.ensures.length, viewed_length _ _ _ c.one.view_is)
