-- One bit of a word of 64 bits.
use Rattle.std.specs.Prelude.{◌≡◌, ◌≢◌, ℕ, ◌<◌}
use Rattle.std.specs.Int.{bit_at}

-- bit k of the word is set, and none below it
pub record IsLowestBit (word k : ℕ) : Type 0 where
  pub within : k < 64
  pub set : bit_at word k ≡ 1
  pub lowest : (i : ℕ) → i < k → bit_at word i ≡ 0

-- bit k of the word is set, and none above it
pub record IsHighestBit (word k : ℕ) : Type 0 where
  pub within : k < 64
  pub set : bit_at word k ≡ 1
  pub highest : (i : ℕ) → k < i → bit_at word i ≡ 0

-- bit k of the new word is clear, and each other bit is that of the old one
pub record ClearsBit (old new k : ℕ) : Type 0 where
  pub clear : bit_at new k ≡ 0
  pub others : (i : ℕ) → i < 64 → i ≢ k → bit_at new i ≡ bit_at old i
