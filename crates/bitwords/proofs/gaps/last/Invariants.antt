use Rattle.std.proofs.Common.{◌+◌, ◌*◌, ◌≤◌}
use Rattle.std.specs.Int.{div_ceil}
use Rattle.bitlanes.specs.Words.{lane_steps}
use Rattle.bitwords.specs.Rows.{has_bit, count_below}
use Rattle.bitwords.specs.Runs.{begins}
use Rattle.bitwords.specs.Steps.{range_words}
use Rattle.bitwords.proofs.LastRooms.{NoneBehind}
use Rattle.bitwords.proofs.gaps.last.Given as goal

-- no place whose run would end behind `stop` has room, and the runs and words behind it took the steps, at least one
-- for each lane
abbrev pub invariant-loop-taken : goal.invariant-loop-taken
invariant-loop-taken l = record {
  within : l.stop ≤ l.end;
  none : NoneBehind l.words l.end l.count l.stop;
  spent : l.steps + 2 * count_below (begins (has_bit l.words)) l.stop + div_ceil l.stop 64
      ≤ l.fn.steps + 2 * count_below (begins (has_bit l.words)) l.end + div_ceil l.end 64;
  covered : l.fn.steps + lane_steps (range_words l.stop l.end) ≤ l.steps;
}

abbrev pub decreases-loop-taken : goal.decreases-loop-taken
decreases-loop-taken l = l.stop
