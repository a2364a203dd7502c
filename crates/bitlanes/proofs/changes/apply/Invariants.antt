use Rattle.std.proofs.Common.{◌≡◌, ◌+◌, ◌-◌, ◌*◌, ◌≤◌, ◌==◌, take, true, false}
use Rattle.std.specs.List.{list_all}
use Rattle.std.specs.Simd.Lanes.{zip2}
use Rattle.bitlanes.specs.Changes.{changed_bits}
use Rattle.bitlanes.specs.Words.{zip_longest}
use Rattle.bitlanes.proofs.changes.apply.Given as goal

abbrev pub invariant-loop-at : goal.invariant-loop-at
invariant-loop-at g l = record {
  words : l.dst ≡ zip_longest g.O.WordOp.joined true false l.initial.dst (take l.at l.src);
  changed : list_all (λ word. word == 0) l.changed
      ≡ list_all (λ word. word == 0) (take l.at (zip2 (changed_bits g.O.WordOp.joined) l.initial.dst l.src));
  within : l.at ≤ l.words;
  cost : 4 * l.steps ≡ 4 * l.fn.steps + l.at;
}

abbrev pub decreases-loop-at : goal.decreases-loop-at
decreases-loop-at g l = l.words - l.at
