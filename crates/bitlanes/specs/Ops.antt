-- The laws of an operation on words.
use Rattle.std.specs.Prelude.{◌≡◌, ℕ, ◌<◌, ◌^◌, Bool, false, ◌&&◌}
use Rattle.bitlanes.specs.Bits.{bit}

-- the operation makes words of words, by a truth function of the two bits at each place
pub record IsWordOp (joined : ℕ → ℕ → ℕ) (truth : Bool → Bool → Bool) (keep take : Bool) : Type 0 where
  -- each bit of the joined word is the truth function of the two bits at its place
  pub by_bits : (a b i : ℕ) → a < 2 ^ 64 → b < 2 ^ 64 → bit (joined a b) i ≡ truth (bit a i) (bit b i)
  -- the joined word is a word
  pub fits : (a b : ℕ) → a < 2 ^ 64 → b < 2 ^ 64 → joined a b < 2 ^ 64
  -- a bit that neither word has is not in the joined word
  pub of_neither : truth false false ≡ false
  -- a bit that the second word lacks is as in the first if `keep`, and else is not there
  pub of_first : (x : Bool) → truth x false ≡ (keep && x)
  -- a bit that the first word lacks is as in the second if `take`, and else is not there
  pub of_second : (y : Bool) → truth false y ≡ (take && y)
