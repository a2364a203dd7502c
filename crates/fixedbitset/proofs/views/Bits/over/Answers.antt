use Rattle.std.proofs.Common.{rules}
use Rattle.fixedbitset.proofs.views.Bits.over.Goals as goal

pub invariant_of-result : goal.invariant_of-result
invariant_of-result c =
    record {
      clean = record {
        fits = c.ranges.length.fits;
        count = search rules steps 100000;
        tail = search rules steps 100000;
      };
    }
