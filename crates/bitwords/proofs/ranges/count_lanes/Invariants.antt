use Rattle.std.proofs.Common.{◌≡◌, ◌+◌}
use Rattle.bitwords.proofs.ranges.count_lanes.Given as goal

abbrev pub invariant-loop : goal.invariant-loop
invariant-loop g l = record { cost : l.steps + l.initial.counter ≡ l.initial.steps + l.counter }
