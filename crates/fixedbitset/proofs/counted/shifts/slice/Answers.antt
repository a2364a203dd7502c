use Rattle.std.proofs.Common.{◌≡◌, arith, rules}
use Rattle.std.proofs.lemmas.Grind.{common_steps}
use Rattle.fixedbitset.proofs.Growth.{zeros, has_bit-zeros}
use Rattle.fixedbitset.proofs.counted.shifts.slice.Goals as goal

pub slice_over_zeros-requires-clause-zeros : goal.slice_over_zeros-requires-clause-zeros
slice_over_zeros-requires-clause-zeros g c p _ =
    let made : c.deref_mut.result.now ≡ zeros c.storage_words.result = search rules steps 800000 in
    rw made (has_bit-zeros c.storage_words.result p)

pub returns-clause-value : goal.returns-clause-value
returns-clause-value g c = grind (arith, common_steps) steps 800000

pub returns-clause-cost : goal.returns-clause-cost
returns-clause-cost g c = search rules steps 2000000
