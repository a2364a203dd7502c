use Rattle.std.proofs.Common.{◌≡◌, ◌+◌, ◌*◌}
use Rattle.bitwords.specs.Rows.{has_bit, count_below}
use Rattle.bitranks.proofs.directory.rank_within.Given as goal

abbrev pub invariant-loop-k : goal.invariant-loop-k
invariant-loop-k l = record {
  count : l.total ≡ count_below (has_bit l.words) (64 * l.k);
  cost : l.steps + l.first ≡ l.fn.steps + l.k;
}
