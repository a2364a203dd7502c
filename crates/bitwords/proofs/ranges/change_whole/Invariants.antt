use Rattle.std.proofs.Common.{◌≡◌, ◌+◌, ◌*◌}
use Rattle.bitwords.specs.Rows.{in_range, IsJoined}
use Rattle.bitwords.proofs.ranges.change_whole.Given as goal

abbrev pub invariant-loop-k : goal.invariant-loop-k
invariant-loop-k g l = record {
  bits : IsJoined g.O.WordOp.truth l.fn.words (in_range (64 * l.first) (64 * l.k)) l.words;
  cost : l.steps + l.first ≡ l.fn.steps + l.k;
}
