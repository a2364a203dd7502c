use Rattle.std.proofs.Common.{◌≡◌, ◌+◌, ◌-◌, ◌*◌, ◌≤◌, ◌==◌, true, take, map}
use Rattle.std.specs.List.{list_all}
use Rattle.bitlanes.proofs.lanes.none_masked.Given as goal

abbrev pub invariant-loop-at : goal.invariant-loop-at
invariant-loop-at g l = record {
  zero : list_all (λ word. word == 0) (take l.at (map (g.O.WordOp.joined l.mask) l.words)) ≡ true;
  within : l.at ≤ l.count;
  cost : 4 * l.steps ≡ 4 * l.fn.steps + l.at;
}

abbrev pub decreases-loop-at : goal.decreases-loop-at
decreases-loop-at g l = l.count - l.at
