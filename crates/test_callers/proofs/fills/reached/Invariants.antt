use Rattle.std.proofs.Common.{◌≡◌, ◌+◌, ◌≤◌, true, vec_len, length}
use Rattle.fixedbitset.specs.Bits.{contains}
use Rattle.fixedbitset.specs.Ranges.{count_zeroes}
use Rattle.test_callers.proofs.fills.reached.Given as goal

abbrev pub invariant-loop-node : goal.invariant-loop-node
invariant-loop-node l = (l.visited.length ≡ length l.edges) × (contains l.visited l.start ≡ true)

abbrev pub decreases-loop-node : goal.decreases-loop-node
decreases-loop-node l = count_zeroes l.visited 0 l.visited.length + vec_len l.todo

abbrev pub invariant-loop-to : goal.invariant-loop-to
invariant-loop-to l = record {
  fewer : count_zeroes l.visited 0 l.visited.length + vec_len l.todo
      ≤ count_zeroes l.initial.visited 0 l.initial.visited.length + vec_len l.initial.todo;
  nodes : l.visited.length ≡ length l.edges;
  start : contains l.visited l.start ≡ true;
}
