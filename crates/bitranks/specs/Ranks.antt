-- Rank and select of a value, and the directory for them.
use Rattle.std.specs.Prelude.{◌≡◌, ℕ, ◌+◌, ◌-◌, ◌*◌, ◌/◌, ◌%◌, ◌^◌, ◌<◌, ◌≤◌}
use Rattle.std.specs.Prelude.{min, Option, List, length, slice_get, slice_index}
use Rattle.std.specs.Int.{div_ceil}
use Rattle.bitwords.specs.Rows.{has_bit, count_below}
use Rattle.fixedbitset.specs.Bits.{Bits, asc, words}
use Rattle.fixedbitset.specs.Ranges.{count_ones}

-- how many positions below p are set
unfoldable pub rank : Bits → ℕ → ℕ
rank v p = count_ones v 0 p

-- the k-th of the positions in ascending order, counted from 0, if there is one
unfoldable pub select : Bits → ℕ → Option ℕ
select v k = slice_get (asc v) k

-- how many entries a directory of n words has: one for each eight words, the last of which may be fewer
abbrev pub entries : ℕ → ℕ
entries n = div_ceil n 8

-- how many of n words the last entry stands for
abbrev pub last_words : ℕ → ℕ
last_words n = n - 8 * (entries n - 1)

-- which of its entry's words word k is, counted from 1
abbrev pub nth_of_entry : ℕ → ℕ
nth_of_entry k = k % 8 + 1

-- to count below position p of n words: the words of an entry up to the one that has p, or up to the last word
abbrev pub rank_steps : (n p : ℕ) → ℕ
rank_steps n p = min n (nth_of_entry (min (p / 64) (n - 1)))

-- from `before` steps to `after`, as many as halve n entries until one is left:
-- their binary logarithm, rounded down or up
pub record Halves (n before after : ℕ) : Type 0 where
  pub grows : before ≤ after
  pub least : (log : ℕ) → 2 ^ log ≤ n → before + log ≤ after
  pub most : (log : ℕ) → n ≤ 2 ^ log → after ≤ before + log

-- entry k is how many bits are set in the words before word 8 k
pub record IsDirectory (words directory : List ℕ) : Type 0 where
  pub long : length directory ≡ entries (length words)
  pub counts : (k : ℕ) → k < length directory → slice_index directory k ≡ count_below (has_bit words) (64 * (8 * k))

-- ---- what no public clause cites

-- the words of the value with a directory of them, and each position fits a usize
pub record IsKept (v : Bits) (ws counts : List ℕ) : Type 0 where
  pub of_value : ws ≡ words v
  pub directory : IsDirectory ws counts
  pub fits : 64 * length ws ≤ 2 ^ 64
