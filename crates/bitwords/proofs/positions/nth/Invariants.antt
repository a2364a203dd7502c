use Rattle.std.proofs.Common.{◌≡◌, ◌+◌, ◌*◌}
use Rattle.bitwords.specs.Rows.{has_bit, count_below}
use Rattle.bitwords.proofs.positions.nth.Given as goal

abbrev pub invariant-loop-k : goal.invariant-loop-k
invariant-loop-k l = record {
  count : count_below (has_bit l.words) (64 * l.k) + l.left ≡ count_below (has_bit l.words) (64 * l.first) + l.index;
  cost : l.steps + l.first ≡ l.fn.steps + l.k;
}
