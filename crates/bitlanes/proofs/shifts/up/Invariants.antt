use Rattle.std.proofs.Common.{◌≡◌, ◌+◌, ◌-◌, ◌*◌, length, slice_index}
use Rattle.bitlanes.specs.Shifts.{window}
use Rattle.bitlanes.proofs.Moved.{AreJoined}
use Rattle.bitlanes.proofs.shifts.up.Given as goal

abbrev pub invariant-loop-lane : goal.invariant-loop-lane
invariant-loop-lane g l = record {
  are : AreJoined g.O.WordOp.joined (λ k. window l.fn.words (64 * k - l.fn.by)) l.fn.words
      (length l.fn.words - 4 * l.lane) (length l.fn.words) l.words;
  cost : l.steps ≡ l.fn.steps + l.lane;
}

-- the word at `at` is at hand, and those that the words from there on move to are joined
abbrev pub invariant-loop-at : goal.invariant-loop-at
invariant-loop-at g l = record {
  are : AreJoined g.O.WordOp.joined (λ k. window l.fn.words (64 * k - l.fn.by)) l.fn.words (l.first + l.at)
      (length l.fn.words) l.words;
  high : l.high ≡ slice_index l.fn.words l.at;
}
