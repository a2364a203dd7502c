use Rattle.std.proofs.Common.{◌-◌, ◌≡◌, ℕ, ◌<◌, ◌≤◌, ◌%◌, length, map, drop, get_or}
use Rattle.std.specs.Int.RustNames.{count_ones}
use Rattle.bitwords.specs.Handfuls.{word_positions, in_eights}
use Rattle.bitwords.proofs.handfuls.give_in_order.Given as goal

-- so many are written, as far as there are so many, and the others are left
abbrev pub invariant-loop-at : goal.invariant-loop-at
invariant-loop-at g l = record {
  eights : l.at % 8 ≡ 0;
  within : l.at ≤ in_eights (count_ones l.word);
  behind : drop l.at l.places ≡ drop l.at l.fn.places;
  written : (j : ℕ) → j < l.at → j < length (word_positions 0 l.word)
      → get_or l.places j 0 ≡ get_or (map (g.O.Order.placed l.base) (word_positions 0 l.word)) j 0;
  rest : word_positions 0 l.left ≡ drop l.at (word_positions 0 l.word);
}

abbrev pub decreases-loop-at : goal.decreases-loop-at
decreases-loop-at g l = l.count - l.at
