use Rattle.std.proofs.Common.{refl}
use Rattle.fixedbitset.proofs.Blocks.{settled}
use Rattle.fixedbitset.proofs.views.BitsMut.settle.Goals as goal

pub invariant_of-result : goal.invariant_of-result
invariant_of-result c =
    record {
      clean =
          (settled _ _ c.ranges.length.fits c.requires.fewer _ _ c.requires.count c.clear_from.ensures).clean;
    }

pub returns : goal.returns
returns c =
    record {
      value = (settled _ _ c.ranges.length.fits c.requires.fewer _ _ c.requires.count c.clear_from.ensures).value;
      length = refl;
      same = refl;
    }
