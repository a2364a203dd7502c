use Rattle.std.proofs.Common.{◌≡◌, ℕ, ◌+◌, ◌-◌, ◌*◌, ◌<◌, ◌≤◌, length, drop, map, slice_index}
use Rattle.bitlanes.proofs.search.skip_zeros.Given as goal

abbrev pub invariant-loop-start : goal.invariant-loop-start
invariant-loop-start g l = record {
  after : l.from ≤ l.start;
  within : l.start ≤ length l.words;
  zeros : (i : ℕ) → l.from ≤ i → i < l.start → slice_index (map (g.O.WordOp.joined l.mask) l.words) i ≡ 0;
  cost : 4 * l.steps ≡ 4 * l.fn.steps + (l.start - l.from);
}

abbrev pub decreases-loop-start : goal.decreases-loop-start
decreases-loop-start g l = length l.words - l.start

-- the words that are left, and those before them are 0
abbrev pub invariant-loop-rest : goal.invariant-loop-rest
invariant-loop-rest g l = record {
  same : l.rest ≡ drop (length l.words - length l.rest) l.words;
  within : length l.rest ≤ length l.words;
  after : l.from ≤ length l.words - length l.rest;
  zeros : (i : ℕ) → l.from ≤ i → i < length l.words - length l.rest
      → slice_index (map (g.O.WordOp.joined l.mask) l.words) i ≡ 0;
  cost : 4 * l.steps ≡ 4 * l.fn.steps + (length l.words - length l.rest - l.from);
}

abbrev pub decreases-loop-rest : goal.decreases-loop-rest
decreases-loop-rest g l = length l.rest
