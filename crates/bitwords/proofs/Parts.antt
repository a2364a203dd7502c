-- The parts of a range that is cut at the edges of words.
use Rattle.std.proofs.Common.{◌≡◌, ℕ, ◌+◌, ◌-◌, ◌*◌, ◌/◌, ◌%◌, ◌^◌, ◌<◌, ◌≤◌}
use Rattle.std.proofs.Common.{◌&&◌, ◌==◌, nat_lt, nat_le, ap, ◌∙◌, arith, ⊎_elim}
use Rattle.std.proofs.lemmas.Bool.{cases_lt}
use Rattle.std.proofs.lemmas.Bool.Decides.{nat_tests}
use Rattle.std.proofs.lemmas.Nat.Bits.{bit_at_ones, bit_at_ones_above}
use Rattle.bitlanes.specs.Bits.{bit}
use Rattle.bitwords.specs.Cuts.{IsCut}
use Rattle.bitwords.specs.Rows.{in_range}

-- the bits from the place of the start on, as many as the range has
pub masked : (start end mask : ℕ) → start < end → end ≤ 64 * (start / 64) + 64
    → ((i : ℕ) → bit mask i ≡ (nat_le (start % 64) i && nat_lt i (start % 64 + (end - start)))) → (i : ℕ)
    → bit mask i ≡ (nat_lt i 64 && in_range start end (64 * (start / 64) + i))
masked start end mask some one_word bits i = bits i ∙ grind (arith, nat_tests)

-- a whole word has positions of the range alone
pub masked_whole : (k i : ℕ) → bit (2 ^ 64 - 1) i ≡ (nat_lt i 64 && in_range (64 * k) (64 * (k + 1)) (64 * k + i))
masked_whole k i = ⊎_elim
    (λ (lt : i < 64). ap (λ n. n == 1) (bit_at_ones 64 i lt) ∙ grind (arith, nat_tests))
    (λ (ge : 64 ≤ i). ap (λ n. n == 1) (bit_at_ones_above 64 i ge) ∙ grind (arith, nat_tests))
    (cases_lt i 64)

module _ (start end low high : ℕ) (is : IsCut start end low high) where
  -- the words between have the positions between
  pub between : (p : ℕ) → in_range (64 * (low / 64)) (64 * (high / 64)) p ≡ in_range low high p
  between p = grind (arith, nat_tests, is)
