use Rattle.std.proofs.Common.{◌≡◌, ◌+◌, sum}
use Rattle.fixedbitset.specs.Bits as model
use Rattle.test_callers.proofs.loops.total.Given as goal

abbrev pub invariant-loop-position : goal.invariant-loop-position
invariant-loop-position l = l.total + sum l.position-iterator.items ≡ sum (model.asc l.set)
