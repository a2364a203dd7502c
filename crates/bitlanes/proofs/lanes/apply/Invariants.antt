use Rattle.std.proofs.Common.{◌≡◌, ◌+◌, take, true, false}
use Rattle.bitlanes.specs.Words.{zip_longest, lane_steps}
use Rattle.bitlanes.proofs.lanes.apply.Given as goal

abbrev pub invariant-loop-k : goal.invariant-loop-k
invariant-loop-k g l = record {
  words : l.dst ≡ zip_longest g.O.WordOp.joined true false l.initial.dst (take l.k l.src);
  cost : l.steps ≡ l.fn.steps + lane_steps l.k;
}
