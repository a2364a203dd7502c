use Rattle.std.proofs.Common.{◌≡◌, nat_le, find}
use Rattle.fixedbitset.specs.Bits as model
use Rattle.test_callers.proofs.loops.first_from.Given as goal

abbrev pub invariant-loop-position : goal.invariant-loop-position
invariant-loop-position l = find (nat_le l.low) l.position-iterator.items ≡ find (nat_le l.low) (model.asc l.set)
