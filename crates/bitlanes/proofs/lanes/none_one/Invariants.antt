use Rattle.std.proofs.Common.{◌≡◌, ◌+◌, ◌-◌, ◌*◌, ◌≤◌, ◌==◌, true, take}
use Rattle.std.specs.List.{list_all}
use Rattle.bitlanes.proofs.lanes.none_one.Given as goal

abbrev pub invariant-loop-at : goal.invariant-loop-at
invariant-loop-at l = record {
  zero : list_all (λ word. word == 0) (take l.at l.a) ≡ true;
  within : l.at ≤ l.words;
  cost : 4 * l.steps ≡ 4 * l.fn.steps + l.at;
}

abbrev pub decreases-loop-at : goal.decreases-loop-at
decreases-loop-at l = l.words - l.at
