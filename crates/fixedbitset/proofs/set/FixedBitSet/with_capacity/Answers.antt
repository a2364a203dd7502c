use Rattle.std.proofs.Common.{rules, replicate, ◌≡◌}
use Rattle.fixedbitset.specs.Bits.{storage_words}
use Rattle.fixedbitset.proofs.Growth.{keeps_zeros}
use Rattle.fixedbitset.proofs.set.FixedBitSet.with_capacity.Goals as goal

pub invariant_of-result : goal.invariant_of-result
invariant_of-result c =
    let items : c.in_ok-vec.field-0.items ≡ replicate (storage_words c.args.bits) 0 = search rules in
    rw items (keeps_zeros _ c.ranges.bits.fits).clean

pub returns : goal.returns
returns c =
    let items : c.in_ok-vec.field-0.items ≡ replicate (storage_words c.args.bits) 0 = search rules in
    rw items (keeps_zeros _ c.ranges.bits.fits).value
