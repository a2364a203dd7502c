use Rattle.std.proofs.Common.{refl}
use Rattle.fixedbitset.proofs.Words.{keeps_pair}
use Rattle.fixedbitset.proofs.views.Bits.join_to.Goals as goal

pub returns : goal.returns
returns g c =
    let kept = keeps_pair _ _ _ _ _ refl c.args.self.clean _ _ refl c.args.other.clean c.join_to.ensures.bits
    g.met.O.WordOp.laws c.requires.shorter in
    record { value = kept.value; clean = kept.clean }
