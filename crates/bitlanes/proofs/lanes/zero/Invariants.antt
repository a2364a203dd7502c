use Rattle.std.proofs.Common.{◌≡◌, ◌+◌, take, replicate}
use Rattle.bitlanes.specs.Words.{lane_steps}
use Rattle.bitlanes.proofs.lanes.zero.Given as goal

abbrev pub invariant-loop-place : goal.invariant-loop-place
invariant-loop-place l = record {
  words : take l.place l.dst ≡ replicate l.place 0;
  cost : l.steps ≡ l.fn.steps + lane_steps l.place;
}
