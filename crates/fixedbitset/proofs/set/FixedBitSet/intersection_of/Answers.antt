use Rattle.std.proofs.Common.{arith, ◌∙◌}
use Rattle.fixedbitset.proofs.Words.{viewed_length}
use Rattle.fixedbitset.proofs.set.FixedBitSet.intersection_of.Goals as goal

pub intersection_of-requires : goal.intersection_of-requires
intersection_of-requires c =
    viewed_length _ _ _ c.self.view_is
    ∙ omega (
      arith,
      c.in_ok-fit.ensures.ok,
      c.as_bits.ensures.length,
      c.as_bits-2.ensures.length,
      viewed_length _ _ _ c.one.view_is,
      viewed_length _ _ _ c.other.view_is,
    )
