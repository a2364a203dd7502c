use Rattle.std.proofs.Common.{◌≡◌, ℕ, ◌+◌, ◌-◌, ◌*◌, ◌<◌, ◌≤◌, map, slice_index}
use Rattle.bitlanes.proofs.search.skip_zeros_back.Given as goal

abbrev pub invariant-loop-end : goal.invariant-loop-end
invariant-loop-end g l = record {
  within : l.end ≤ l.below;
  zeros : (i : ℕ) → l.end ≤ i → i < l.below → slice_index (map (g.O.WordOp.joined l.mask) l.words) i ≡ 0;
  cost : 4 * l.steps ≡ 4 * l.fn.steps + (l.below - l.end);
}

abbrev pub decreases-loop-end : goal.decreases-loop-end
decreases-loop-end g l = l.end

abbrev pub invariant-loop-end-2 : goal.invariant-loop-end-2
invariant-loop-end-2 g l = record {
  within : l.end ≤ l.below;
  zeros : (i : ℕ) → l.end ≤ i → i < l.below → slice_index (map (g.O.WordOp.joined l.mask) l.words) i ≡ 0;
  cost : 4 * l.steps ≡ 4 * l.fn.steps + (l.below - l.end);
}

abbrev pub decreases-loop-end-2 : goal.decreases-loop-end-2
decreases-loop-end-2 g l = l.end
