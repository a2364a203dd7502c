use Rattle.std.proofs.Common.{arith}
use Rattle.fixedbitset.proofs.Growth.{zeros_behind}
use Rattle.fixedbitset.proofs.views.Bits.slice_to.Goals as goal

pub slice_over_zeros-requires-clause-zeros : goal.slice_over_zeros-requires-clause-zeros
slice_over_zeros-requires-clause-zeros c p behind =
    let used = c.div_ceil.ensures in
    zeros_behind c.args.to.now c.zero.new.dst c.div_ceil.result (omega (arith, used, c.requires.count))
    c.zero.ensures.words p (omega (arith, used, behind))
