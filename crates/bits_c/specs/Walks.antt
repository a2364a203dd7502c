-- What a contract sees of an iterator that a caller keeps: the positions left.
use Rattle.std.specs.Prelude.{ℕ, ◌≡◌, ◌-◌, ◌/◌, ◌%◌, ◌^◌, min, Bool, if◌then◌else◌, Option, Some}
use Rattle.std.specs.Prelude.{None, List, ◌++◌, length, take, drop, reverse, map, bit_and}
use Rattle.std.specs.Int.{bit_not, w64, div_ceil}
use Rattle.bitlanes.specs.Bits.{bit_without}
use Rattle.bitwords.specs.Runs.{stretches, is_like}
use Rattle.bitwords.specs.WalkedWords.{beside, held_items}
use Rattle.fixedbitset.specs.Bits.{words_needed}
use Rattle.bits_c.specs.declared.structs.Ones.{Ones}
use Rattle.bits_c.specs.declared.structs.Zeroes.{Zeroes}
use Rattle.bits_c.specs.declared.structs.Runs.{Runs}
use Rattle.bits_c.specs.declared.structs.Sieve.{Sieve}
use Rattle.bits_c.specs.declared.structs.Pair.{Pair}

-- the position that a call gave, if it says that it gave one
abbrev pub given : Bool → ℕ → Option ℕ
given found position = if found then Some position else None

-- the positions of the words left
abbrev pub ones_left : Ones → List ℕ
ones_left walk = held_items walk.front_at walk.front walk.words.now walk.back

-- the same, where the words between the first and the last are inverted
abbrev pub zeroes_left : Zeroes → List ℕ
zeroes_left walk = held_items walk.front_at walk.front (map (bit_not w64) walk.words.now) walk.back

-- the runs left
abbrev pub stretches_left : Runs → List (ℕ × ℕ)
stretches_left walk = stretches (is_like walk.are_set walk.words.now) walk.end walk.low walk.high

-- how many words stand between the first and the last of those that n positions need
abbrev pub words_between : ℕ → ℕ
words_between n = words_needed n - 2

-- how many stand between the first and the last of those that hold the positions from `start` up to and without `end`
abbrev pub range_words_between : (start end : ℕ) → ℕ
range_words_between start end = div_ceil end 64 - start / 64 - 2

-- the run that a call gave, if it says that it gave one
abbrev pub given_run : Bool → ℕ → ℕ → Option (ℕ × ℕ)
given_run found start end = if found then Some (start, end) else None

-- the positions of the words left, where those between the first and the last are joined by f with the other set's
abbrev pub sieved : (ℕ → ℕ → ℕ) → Sieve → List ℕ
sieved f sieve =
    held_items sieve.walk.front_at sieve.walk.front (beside f sieve.walk.words.now sieve.other.now) sieve.walk.back

-- the positions left that the other set has
abbrev pub shared_left : Sieve → List ℕ
shared_left = sieved bit_and

-- the positions left that the other set lacks
abbrev pub lacked_left : Sieve → List ℕ
lacked_left = sieved bit_without

-- the positions left of the first set, and then those of the second that the first lacks
abbrev pub joined_left : Pair → List ℕ
joined_left walk = ones_left walk.first.walk ++ lacked_left walk.second

-- the positions left of the first set that the second lacks, and then those of the second that the first lacks
abbrev pub split_left : Pair → List ℕ
split_left walk = lacked_left walk.first ++ lacked_left walk.second

-- A call wrote the first positions left, as many as are left or as there is room for, and left those behind them.
pub record TakesFirst {S : Type 0} (left : S → List ℕ) (old : S) (before : List ℕ) (count : ℕ) (after : List ℕ)
    (new : S) : Type 0 where
  pub answer : count ≡ min (length before) (length (left old))
  pub written : after ≡ take count (left old) ++ drop count before
  pub rest : left new ≡ drop count (left old)

-- The same from the end: the last position is written first.
pub record TakesLast {S : Type 0} (left : S → List ℕ) (old : S) (before : List ℕ) (count : ℕ) (after : List ℕ)
    (new : S) : Type 0 where
  pub answer : count ≡ min (length before) (length (left old))
  pub written : after ≡ take count (reverse (left old)) ++ drop count before
  pub rest : left new ≡ take (length (left old) - count) (left old)

-- the low 32 bits of a number
abbrev pub low32 : ℕ → ℕ
low32 n = n % 2 ^ 32

-- A call wrote the low 32 bits of the first positions left, as many as `TakesFirst` says, and left those behind them.
pub record TakesNarrow {S : Type 0} (left : S → List ℕ) (old : S) (before : List ℕ) (count : ℕ) (after : List ℕ)
    (new : S) : Type 0 where
  pub answer : count ≡ min (length before) (length (left old))
  pub written : after ≡ map low32 (take count (left old)) ++ drop count before
  pub rest : left new ≡ drop count (left old)
