use Rattle.std.proofs.Common.{◌≡◌, ◌+◌, ◌*◌, true}
use Rattle.bitwords.specs.Rows.{count_below, bit_test}
use Rattle.bitwords.proofs.ranges.count_whole.Given as goal

abbrev pub invariant-loop-k : goal.invariant-loop-k
invariant-loop-k g l = record {
  count : l.total + count_below (bit_test (g.O.WordOp.truth true) l.words) (64 * l.first)
      ≡ count_below (bit_test (g.O.WordOp.truth true) l.words) (64 * l.k);
  cost : l.steps + l.first ≡ l.fn.steps + l.k;
}
