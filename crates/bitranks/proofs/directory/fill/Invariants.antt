use Rattle.std.proofs.Common.{◌≡◌, ℕ, ◌+◌, ◌*◌, ◌<◌, slice_index}
use Rattle.bitwords.specs.Rows.{has_bit, count_below}
use Rattle.bitranks.proofs.directory.fill.Given as goal

abbrev pub invariant-loop-entry : goal.invariant-loop-entry
invariant-loop-entry l = record {
  counts : (k : ℕ) → k < l.entry → slice_index l.directory k ≡ count_below (has_bit l.words) (64 * (8 * k));
  cost : l.steps + 8 ≡ l.fn.steps + 8 * l.entry;
}
