use Rattle.std.proofs.Common.{◌≡◌, ℕ, ◌+◌, ◌<◌, ◌≤◌, map, slice_index}
use Rattle.bitlanes.proofs.search.last_in_lane.Given as goal

abbrev pub invariant-loop-at : goal.invariant-loop-at
invariant-loop-at g l = record {
  zeros : (i : ℕ) → l.start + l.at ≤ i → i < l.start + 4
      → slice_index (map (g.O.WordOp.joined l.mask) l.words) i ≡ 0;
}
