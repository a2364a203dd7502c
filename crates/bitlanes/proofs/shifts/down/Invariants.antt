use Rattle.std.proofs.Common.{◌≡◌, ◌+◌, ◌-◌, ◌*◌, slice_index}
use Rattle.bitlanes.specs.Shifts.{window}
use Rattle.bitlanes.proofs.Moved.{AreJoined}
use Rattle.bitlanes.proofs.shifts.down.Given as goal

abbrev pub invariant-loop-lane : goal.invariant-loop-lane
invariant-loop-lane l = record {
  are : AreJoined (λ x y. y) (λ k. window l.fn.words (l.fn.by + 64 * k)) l.fn.words 0 (4 * l.lane) l.words;
  cost : l.steps ≡ l.fn.steps + l.lane;
}

-- the word before `at` is at hand, and those before it were moved
abbrev pub invariant-loop-at : goal.invariant-loop-at
invariant-loop-at l = record {
  are : AreJoined (λ x y. y) (λ k. window l.fn.words (l.fn.by + 64 * k)) l.fn.words 0 (l.at - 1 - l.first) l.words;
  low : l.low ≡ slice_index l.fn.words (l.at - 1);
  cost : l.steps ≡ l.fn.steps + l.lanes + 1;
}
