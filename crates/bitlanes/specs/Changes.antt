-- What a join changes, of words and of bits.
use Rattle.std.specs.Prelude.{ℕ, Bool, bit_xor}
use Rattle.bitlanes.specs.Bits.{either}

-- the bits of the word a that are others in f a b
abbrev pub changed_bits : (ℕ → ℕ → ℕ) → ℕ → ℕ → ℕ
changed_bits f a b = bit_xor a (f a b)

-- whether the bit x is another one in t x y
abbrev pub changes : (Bool → Bool → Bool) → Bool → Bool → Bool
changes t x y = either x (t x y)
