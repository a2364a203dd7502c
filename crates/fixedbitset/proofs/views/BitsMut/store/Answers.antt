use Rattle.std.proofs.Common.{refl}
use Rattle.fixedbitset.proofs.Moves.{keeps_stored}
use Rattle.fixedbitset.proofs.views.BitsMut.store.Goals as goal

pub invariant_of-self : goal.invariant_of-self
invariant_of-self c =
    record {
      clean =
          (keeps_stored _ _ _ c.args.self.now.clean _ _ _ c.requires.width c.requires.within
          c.store.ensures.bits).clean;
    }

pub returns : goal.returns
returns c =
    record {
      value =
          (keeps_stored _ _ _ c.args.self.now.clean _ _ _ c.requires.width c.requires.within
          c.store.ensures.bits).value;
      length = refl;
      same = refl;
    }
