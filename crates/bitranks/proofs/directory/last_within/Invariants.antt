use Rattle.std.proofs.Common.{ℕ, ◌+◌, ◌-◌, ◌^◌, ◌<◌, ◌≤◌, length, slice_index}
use Rattle.bitranks.proofs.Halving.{IsSpent}
use Rattle.bitranks.proofs.directory.last_within.Given as goal

abbrev pub invariant-loop-high : goal.invariant-loop-high
invariant-loop-high l = record {
  some : l.low < l.high;
  within : l.high ≤ length l.directory;
  below : slice_index l.directory l.low ≤ l.index;
  above : l.high < length l.directory → l.index < slice_index l.directory l.high;
  cost : (n : ℕ) → length l.directory ≤ 2 ^ n → IsSpent n l.fn.steps l.steps (l.high - l.low);
  least : (n : ℕ) → 2 ^ n ≤ length l.directory → 2 ^ (l.fn.steps + n - l.steps) ≤ l.high - l.low;
  grows : l.fn.steps ≤ l.steps;
}

abbrev pub decreases-loop-high : goal.decreases-loop-high
decreases-loop-high l = l.high - l.low
