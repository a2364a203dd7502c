use Rattle.std.proofs.Common.{◌≡◌, ◌+◌, sum}
use Rattle.fixedbitset.specs.Bits as model
use Rattle.test_callers.proofs.loops.first_and_total.Given as goal

abbrev pub invariant-loop-position : goal.invariant-loop-position
invariant-loop-position l = l.first + l.others + sum l.position-iterator.items ≡ sum (model.asc l.set)
