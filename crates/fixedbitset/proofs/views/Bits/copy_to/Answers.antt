use Rattle.std.proofs.Common.{◌∙◌}
use Rattle.fixedbitset.proofs.Moves.{keeps_moved, having_copy}
use Rattle.fixedbitset.proofs.views.Bits.copy_to.Goals as goal

pub returns : goal.returns
returns c =
    let kept = keeps_moved _ c.ranges.length.fits _ _ _ _ _ c.requires c.join.ensures.bits c.clear_from.ensures in
    record { value = kept.value ∙ having_copy _ _ c.args.self.clean c.args.length; clean = kept.clean }
