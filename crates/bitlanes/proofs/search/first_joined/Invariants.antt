use Rattle.std.proofs.Common.{◌≡◌, ℕ, ◌+◌, ◌-◌, ◌*◌, ◌<◌, ◌≤◌, length, min, slice_index}
use Rattle.std.specs.Simd.Lanes.{zip2}
use Rattle.bitlanes.specs.Words.{lane_steps}
use Rattle.bitlanes.proofs.search.first_joined.Given as goal

abbrev pub invariant-loop-lane : goal.invariant-loop-lane
invariant-loop-lane g l = record {
  within : l.lane ≤ min (length l.a) (length l.b);
  zeros : (i : ℕ) → i < l.lane → slice_index (zip2 g.O.WordOp.joined l.a l.b) i ≡ 0;
  cost : 4 * l.steps ≡ 4 * l.fn.steps + l.lane;
}

abbrev pub decreases-loop-lane : goal.decreases-loop-lane
decreases-loop-lane g l = length l.a - l.lane

abbrev pub invariant-loop-at : goal.invariant-loop-at
invariant-loop-at g l = record {
  zeros : (i : ℕ) → i < l.at → slice_index (zip2 g.O.WordOp.joined l.a l.b) i ≡ 0;
  cost : l.steps ≡ l.fn.steps + lane_steps l.at;
}
