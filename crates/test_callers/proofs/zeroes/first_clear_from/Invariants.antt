use Rattle.std.proofs.Common.{◌≡◌, nat_le, find}
use Rattle.fixedbitset.specs.Bits as model
use Rattle.test_callers.proofs.zeroes.first_clear_from.Given as goal

abbrev pub invariant-loop-slot : goal.invariant-loop-slot
invariant-loop-slot l =
    find (nat_le l.low) l.slot-iterator.items ≡ find (nat_le l.low) (model.asc (model.complement l.set))
