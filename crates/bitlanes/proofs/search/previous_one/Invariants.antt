use Rattle.std.proofs.Common.{◌≡◌, ℕ, ◌+◌, ◌-◌, ◌<◌, ◌≤◌, map, slice_index}
use Rattle.bitlanes.specs.Words.{lane_steps}
use Rattle.bitlanes.proofs.search.previous_one.Given as goal

abbrev pub invariant-loop-at : goal.invariant-loop-at
invariant-loop-at g l = record {
  zeros : (i : ℕ) → l.at ≤ i → i < l.below → slice_index (map (g.O.WordOp.joined l.mask) l.words) i ≡ 0;
  cost : l.steps ≡ l.fn.steps + lane_steps (l.below - l.at);
}
