use Rattle.std.proofs.Common.{◌≡◌, ℕ, ◌<◌, length, map, drop, get_or}
use Rattle.bitwords.specs.Handfuls.{word_positions}
use Rattle.bitwords.proofs.handfuls.give_eight.Given as goal

-- so many are written, as far as there are so many, and the others are left
abbrev pub invariant-loop-index : goal.invariant-loop-index
invariant-loop-index g l = record {
  written : (j : ℕ) → j < l.index → j < length (word_positions 0 l.word)
      → get_or l.eight j 0 ≡ get_or (map (g.O.Order.placed l.base) (word_positions 0 l.word)) j 0;
  rest : word_positions 0 l.left ≡ drop l.index (word_positions 0 l.word);
}
