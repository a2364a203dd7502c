use Rattle.std.proofs.Common.{◌≡◌, ◌+◌, length}
use Rattle.fixedbitset.specs.Bits as model
use Rattle.test_callers.proofs.loops.counted.Given as goal

abbrev pub invariant-loop-position : goal.invariant-loop-position
invariant-loop-position l = l.count + length l._position-iterator.items ≡ length (model.asc l.set)
