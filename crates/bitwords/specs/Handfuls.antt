-- The positions of one word, and what a call that gives some of a list has written.
use Rattle.std.specs.Prelude.{◌≡◌, ℕ, ◌+◌, ◌-◌, ◌*◌, ◌<◌, ◌≤◌, not, ◌&&◌, nat_le, List, length, take, drop, get_or}
use Rattle.std.specs.Int.{div_ceil}
use Rattle.bitlanes.specs.Bits.{bit}
use Rattle.bitwords.specs.Ascending.{ascending}

-- the positions of the bits set in a word, ascending, where its bit 0 has position `base`
unfoldable pub word_positions : (base word : ℕ) → List ℕ
word_positions base word = ascending (λ p. bit word (p - base)) base 64

-- a number rounded up to a multiple of eight
abbrev pub in_eights : ℕ → ℕ
in_eights n = 8 * div_ceil n 8

-- how many positions the first four words have
abbrev pub ones_ahead : List ℕ → ℕ
ones_ahead words = length (word_positions 0 (get_or words 0 0)) + length (word_positions 0 (get_or words 1 0))
    + length (word_positions 0 (get_or words 2 0)) + length (word_positions 0 (get_or words 3 0))

-- there are four words or more, and the first four have eight positions or more
abbrev pub AreMany : List ℕ → Type 0
AreMany words = (4 ≤ length words) × (8 ≤ ones_ahead words)

-- A call wrote the first `count` of these items to the front of the places, and left those that the items do not reach.
pub record GivesSome (items before : List ℕ) (count : ℕ) (after left : List ℕ) : Type 0 where
  pub at_most : count ≤ length items
  pub room : count ≤ length before
  pub written : take count after ≡ take count items
  pub behind : drop (length items) after ≡ drop (length items) before
  pub rest : left ≡ drop count items

-- The bits alternate in stretches of `by`: the first `by` bits are set, the next `by` are not, and so on.
abbrev pub ArePairs : (by word : ℕ) → Type 0
ArePairs by word = (i : ℕ) → i < 64 → bit word i ≡ not (nat_le by i && bit word (i - by))
