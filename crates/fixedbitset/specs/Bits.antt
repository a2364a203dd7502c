-- The value of a bit set: a length and a set of positions below it, its words, and what each call makes of it.
use Rattle.std.specs.Prelude.{ℕ, ◌+◌, ◌-◌, ◌*◌, ◌^◌, max, Bool, not, ◌&&◌, ◌==◌, nat_lt, nat_le, IsTrue}
use Rattle.std.specs.Prelude.{if◌then◌else◌, Option, List, [], ◌∷◌, map, filter, sum_by, slice_get, slice_set}
use Rattle.std.specs.declared.option.Option.TheVariants.{None}
use Rattle.std.specs.Ordering.{nat_cmp}
use Rattle.std.specs.List.{range_with_len, last_or}
use Rattle.std.specs.Int.{div_ceil}
use Rattle.std.specs.FinSet as set
use Rattle.std.specs.FinSet.{FinSet}
use Rattle.fixedbitset.specs.Numbers.{numbers_below, kept_below}
use Rattle.bitwords.specs.Ascending.{ascending}
use Rattle.bitwords.specs.Rows.{has_bit}

-- a length, and a set of positions below it
pub record Bits : Type 0 where
  pub length : ℕ
  pub positions : FinSet nat_cmp
  pub below : IsTrue (set.is_subset positions (numbers_below length))

-- length n, and those of s that are below it
unfoldable pub pair : ℕ → FinSet nat_cmp → Bits
pair n s = record { length = n; positions = set.intersection s (numbers_below n); below = kept_below n s }

-- whether the position is in the set
unfoldable pub contains : Bits → ℕ → Bool
contains v p = set.contains v.positions p

-- ---- changes

-- length n, and nothing set
unfoldable pub empty : ℕ → Bits
empty n = pair n set.empty

-- the position is set
unfoldable pub insert : Bits → ℕ → Bits
insert v bit = pair v.length (set.insert v.positions bit)

-- the position is not set
unfoldable pub remove : Bits → ℕ → Bits
remove v bit = pair v.length (set.remove v.positions bit)

-- the position is set or not, as `enabled` says
unfoldable pub set_bit : Bits → ℕ → Bool → Bits
set_bit v bit enabled = if enabled then insert v bit else remove v bit

-- the position is set exactly if it was not
unfoldable pub toggle : Bits → ℕ → Bits
toggle v bit = set_bit v bit (not (contains v bit))

-- position `to` becomes what position `from` is
unfoldable pub copy_bit : Bits → ℕ → ℕ → Bits
copy_bit v from to = set_bit v to (contains v from)

-- the greater of the two lengths, and the same positions
unfoldable pub grow : Bits → ℕ → Bits
grow v bits = pair (max v.length bits) v.positions

-- long enough for the position, which is set
unfoldable pub add : Bits → ℕ → Bits
add v bit = pair (max v.length (bit + 1)) (set.insert v.positions bit)

-- the greatest of n and of each item and one
unfoldable pub length_for : ℕ → List ℕ → ℕ
length_for n [] = n
length_for n (item ∷ items) = max (item + 1) (length_for n items)

-- long enough for each item of the list, and all of them are set
unfoldable pub add_all : Bits → List ℕ → Bits
add_all v items = pair (length_for v.length items) (set.union v.positions (set.from_list items))

-- no item of the list is set
unfoldable pub remove_all : Bits → List ℕ → Bits
remove_all v items = pair v.length (set.difference v.positions (set.from_list items))

-- ---- questions

-- no position is set
unfoldable pub is_clear : Bits → Bool
is_clear v = set.len v.positions == 0

-- each position below the length is set
unfoldable pub is_full : Bits → Bool
is_full v = set.is_subset (numbers_below v.length) v.positions

-- ---- positions and words

-- the same length, and the positions below it that are not set
unfoldable pub complement : Bits → Bits
complement v = pair v.length (set.difference (numbers_below v.length) v.positions)

-- the positions in ascending order
unfoldable pub asc : Bits → List ℕ
asc v = ascending (contains v) 0 v.length

-- the first of the positions in ascending order, if there is one
unfoldable pub minimum : Bits → Option ℕ
minimum v = slice_get (asc v) 0

-- the last of the positions in ascending order, if there is one
unfoldable pub maximum : Bits → Option ℕ
maximum v = last_or None (asc v)

-- the sum of 2 ^ (p - start) over the positions p with start ≤ p < start + width
unfoldable pub number_at : Bits → ℕ → ℕ → ℕ
number_at v start width =
    sum_by (λ p. 2 ^ (p - start)) (filter (λ p. nat_le start p && nat_lt p (start + width)) (asc v))

-- word k: the sum of 2 ^ (p - 64 k) over the positions p with 64 k ≤ p < 64 k + 64
abbrev pub word : Bits → ℕ → ℕ
word v k = number_at v (64 * k) 64

-- how many words n positions need
abbrev pub words_needed : ℕ → ℕ
words_needed n = div_ceil n 64

-- how many words a set of n positions keeps: whole lanes of four
abbrev pub storage_words : ℕ → ℕ
storage_words n = 4 * div_ceil (words_needed n) 4

-- the words, the first 64 positions first
unfoldable pub words : Bits → List ℕ
words v = map (word v) (range_with_len 0 (words_needed v.length))

-- ---- values of words

-- length n, and the numbers below it that pass the test
unfoldable pub having : ℕ → (ℕ → Bool) → Bits
having n test = pair n (set.retain (numbers_below n) test)

-- length n, and the positions below it that the words have
unfoldable pub of_words : ℕ → List ℕ → Bits
of_words n ws = having n (has_bit ws)

-- the value whose words are those of v, but for one
unfoldable pub set_block : Bits → ℕ → ℕ → Bits
set_block v index value = of_words v.length (slice_set (words v) index value)
