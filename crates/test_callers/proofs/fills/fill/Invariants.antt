use Rattle.std.proofs.Common.{◌≡◌}
use Rattle.fixedbitset.specs.Ranges.{count_zeroes}
use Rattle.test_callers.proofs.fills.fill.Given as goal

abbrev pub invariant-loop-slot : goal.invariant-loop-slot
invariant-loop-slot l = l.set.length ≡ l.fn.set.length

abbrev pub decreases-loop-slot : goal.decreases-loop-slot
decreases-loop-slot l = count_zeroes l.set 0 l.set.length
