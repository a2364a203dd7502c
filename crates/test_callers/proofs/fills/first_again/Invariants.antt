use Rattle.std.proofs.Common.{◌≡◌, ◌<◌}
use Rattle.fixedbitset.specs.Ranges.{count_zeroes}
use Rattle.test_callers.proofs.fills.first_again.Given as goal

abbrev pub invariant-loop-node : goal.invariant-loop-node
invariant-loop-node l = (l.node < l.visited.length) × (l.visited.length ≡ l.fn.visited.length)

abbrev pub decreases-loop-node : goal.decreases-loop-node
decreases-loop-node l = count_zeroes l.visited 0 l.visited.length
