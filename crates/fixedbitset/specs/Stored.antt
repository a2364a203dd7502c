-- A value and the words in which a set keeps it. Public clauses cite this module only where a caller keeps the words.
use Rattle.std.specs.Prelude.{◌≡◌, ℕ, ◌^◌, ◌<◌, ◌≤◌, Bool, false, List, length}
use Rattle.std.specs.FinSet as set
use Rattle.bitwords.specs.Rows.{has_bit}
use Rattle.fixedbitset.specs.Numbers.{numbers_between}
use Rattle.fixedbitset.specs.Bits.{Bits, pair, having, contains, storage_words}

-- a length that a usize holds, whole lanes of words for it, and no bit past it
pub record IsClean (n : ℕ) (ws : List ℕ) : Type 0 where
  pub fits : n < 2 ^ 64
  pub count : length ws ≡ storage_words n
  pub tail : (p : ℕ) → n ≤ p → has_bit ws p ≡ false

-- ---- what all changes share, and all questions: a second value, which may be that of a range

-- the value of length `end` at which exactly the positions of the range are set
unfoldable pub range_set : ℕ → ℕ → Bits
range_set start end = pair end (numbers_between start end)

-- the length of v, and the positions below it at which f of the two memberships holds
unfoldable pub joined : (Bool → Bool → Bool) → Bits → Bits → Bits
joined f v w = having v.length (λ p. f (contains v p) (contains w p))

-- how many positions of either pass f of the two memberships
unfoldable pub count_joined : (Bool → Bool → Bool) → Bits → Bits → ℕ
count_joined f v w = set.len (set.retain (set.union v.positions w.positions) (λ p. f (contains v p) (contains w p)))
