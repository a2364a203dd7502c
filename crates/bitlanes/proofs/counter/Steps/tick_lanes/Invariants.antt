use Rattle.std.proofs.Common.{◌≡◌, ◌+◌}
use Rattle.bitlanes.proofs.counter.Steps.tick_lanes.Given as goal

abbrev pub invariant-loop : goal.invariant-loop
invariant-loop l = l.self ≡ l.initial.self + l.counter
