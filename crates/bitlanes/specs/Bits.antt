-- A bit of a word, what two bits make, and the bits of one word that another lacks.
use Rattle.std.specs.Prelude.{ℕ, Bool, true, false, ◌==◌, not, bit_and}
use Rattle.std.specs.Int.{bit_at, bit_not, w64}

-- whether bit i of n is set
abbrev pub bit : ℕ → ℕ → Bool
bit n i = bit_at n i == 1

-- whether x or y holds, but not both
abbrev pub either : Bool → Bool → Bool
either true y = not y
either false y = y

-- the bits of the word a that the word b lacks
abbrev pub bit_without : ℕ → ℕ → ℕ
bit_without a b = bit_and a (bit_not w64 b)
