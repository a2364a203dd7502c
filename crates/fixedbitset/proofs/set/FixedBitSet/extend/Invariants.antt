use Rattle.std.proofs.Common.{◌≡◌, ◌<◌, ◌-◌, ◌^◌}
use Rattle.std.specs.List.{All}
use Rattle.fixedbitset.specs.Bits.{add_all}
use Rattle.fixedbitset.proofs.set.FixedBitSet.extend.Given as goal

abbrev pub invariant-loop-item : goal.invariant-loop-item
invariant-loop-item g l =
    record { added : l.self ≡ add_all l.fn.self l.yielded; positions : All (λ item. item < 2 ^ 64 - 1) l.yielded }
