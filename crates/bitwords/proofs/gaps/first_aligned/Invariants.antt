use Rattle.std.proofs.Common.{ℕ, ◌+◌, ◌-◌}
use Rattle.bitwords.specs.Neighbours.{NonePasses}
use Rattle.bitwords.specs.Rows.{has_bit}
use Rattle.bitwords.proofs.AlignedRooms.{aligned, IsSpent}
use Rattle.bitwords.proofs.gaps.first_aligned.Given as goal

-- no multiple before `at` has room, and so many searches took the steps
abbrev pub invariant-loop-found : goal.invariant-loop-found
invariant-loop-found l = record {
  none : NonePasses (aligned (has_bit l.words) l.end l.count l.align l.from) l.from l.at;
  spent : (turns : ℕ) × (reach : ℕ)
      × IsSpent (has_bit l.words) l.end l.count l.align l.from l.fn.steps l.at l.steps turns reach;
}

abbrev pub decreases-loop-found : goal.decreases-loop-found
decreases-loop-found l = l.end + 1 - l.at
