use Rattle.std.proofs.Common.{◌≡◌, ◌++◌}
use Rattle.fixedbitset.specs.Bits as model
use Rattle.test_callers.proofs.loops.pushed.Given as goal

abbrev pub invariant-loop-position : goal.invariant-loop-position
invariant-loop-position l = l.list.items ++ l.position-iterator.items ≡ model.asc l.set
