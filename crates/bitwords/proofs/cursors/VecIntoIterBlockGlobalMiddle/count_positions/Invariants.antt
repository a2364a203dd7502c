use Rattle.std.proofs.Common.{◌≡◌, ◌+◌, length}
use Rattle.std.specs.Vec.Iter.{into_iter_items}
use Rattle.bitwords.proofs.CountedLeft.{row_count}
use Rattle.bitwords.proofs.cursors.VecIntoIterBlockGlobalMiddle.count_positions.Given as goal

-- those counted and those of the words left are those of all words
abbrev pub invariant-loop-word : goal.invariant-loop-word
invariant-loop-word l =
    record { counted : l.total + row_count (into_iter_items l.words) ≡ row_count (into_iter_items l.fn.self) }

abbrev pub decreases-loop-word : goal.decreases-loop-word
decreases-loop-word l = length (into_iter_items l.words)
