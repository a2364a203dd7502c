use Rattle.std.proofs.Common.{◌≡◌, ◌+◌, ◌-◌, ◌*◌, ◌≤◌, ◌==◌, take, drop, replicate}
use Rattle.std.specs.List.{list_all}
use Rattle.bitlanes.proofs.changes.zero.Given as goal

abbrev pub invariant-loop-at : goal.invariant-loop-at
invariant-loop-at l = record {
  words : take l.at l.dst ≡ replicate l.at 0;
  rest : drop l.at l.dst ≡ drop l.at l.fn.dst;
  changed : list_all (λ word. word == 0) l.changed ≡ list_all (λ word. word == 0) (take l.at l.fn.dst);
  within : l.at ≤ l.words;
  cost : 4 * l.steps ≡ 4 * l.fn.steps + l.at;
}

abbrev pub decreases-loop-at : goal.decreases-loop-at
decreases-loop-at l = l.words - l.at
