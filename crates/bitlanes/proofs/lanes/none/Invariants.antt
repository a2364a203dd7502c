use Rattle.std.proofs.Common.{◌≡◌, ◌+◌, ◌-◌, ◌*◌, ◌≤◌, ◌==◌, true, take}
use Rattle.std.specs.List.{list_all}
use Rattle.std.specs.Simd.Lanes.{zip2}
use Rattle.bitlanes.proofs.lanes.none.Given as goal

abbrev pub invariant-loop-at : goal.invariant-loop-at
invariant-loop-at g l = record {
  zero : list_all (λ word. word == 0) (take l.at (zip2 g.O.WordOp.joined l.a l.b)) ≡ true;
  within : l.at ≤ l.common;
  cost : 4 * l.steps ≡ 4 * l.fn.steps + l.at;
}

abbrev pub decreases-loop-at : goal.decreases-loop-at
decreases-loop-at g l = l.common - l.at
