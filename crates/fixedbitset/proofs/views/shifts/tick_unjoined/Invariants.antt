use Rattle.std.proofs.Common.{◌≡◌, ◌+◌}
use Rattle.fixedbitset.proofs.views.shifts.tick_unjoined.Given as goal

abbrev pub invariant-loop : goal.invariant-loop
invariant-loop l = l.steps ≡ l.fn.steps + l.counter
