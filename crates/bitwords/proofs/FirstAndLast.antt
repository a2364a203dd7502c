-- The first and the last position of a row of words, found by its first and its last word that is not 0.
use Rattle.std.specs.List.{last_or}
use Rattle.std.proofs.Common.{◌≡◌, ℕ, ◌+◌, ◌*◌, ◌/◌, ◌%◌, false, ◌==◌, List, [], length}
use Rattle.std.proofs.Common.{None, Some, ap, ◌∙◌, arith, slice_get, slice_index}
use Rattle.std.specs.Int.{bit_at}
use Rattle.bitlanes.specs.Search.{IsFirstOne, IsLastOne, AreZeros}
use Rattle.bitlanes.specs.Word.{IsLowestBit, IsHighestBit}
use Rattle.bitwords.specs.Ascending.{ascending}
use Rattle.bitwords.specs.AscendingFacts.{ascending-none, first-ascending, last-ascending}
use Rattle.bitwords.specs.Rows.{has_bit}
use Rattle.std.proofs.lemmas.Nat.Bits.{bit_at-zero}
use Rattle.bitwords.specs.RowFacts.{has_bit-at}

-- a bit that is clear is no position
none_at : (ws : List ℕ) (p : ℕ) → bit_at (slice_index ws (p / 64)) (p % 64) ≡ 0 → has_bit ws p ≡ false
unfolding has_bit
none_at ws p clear = ap (λ b. b == 1) clear

module _ (ws : List ℕ) where
  -- the positions of the row, in ascending order
  abbrev positions : List ℕ
  positions = ascending (has_bit ws) 0 (64 * length ws)

  -- the lowest bit of the first word that is not 0 is the first position
  pub first_position : (k j : ℕ) → IsFirstOne ws k → IsLowestBit (slice_index ws k) j
      → slice_get positions 0 ≡ Some (64 * k + j)
  first_position k j word low =
      first-ascending (has_bit ws) (64 * length ws) (64 * k + j) (omega (arith, word.within, low.within))
      (has_bit-at ws k j low.within ∙ ap (λ b. b == 1) low.set)
      (λ i below. none_at ws i (grind (arith, word, low, bit_at-zero)))

  -- the highest bit of the last word that is not 0 is the last position
  pub last_position : (k j : ℕ) → IsLastOne ws k → IsHighestBit (slice_index ws k) j
      → last_or None positions ≡ Some (64 * k + j)
  last_position k j word high =
      last-ascending (has_bit ws) (64 * length ws) (64 * k + j) (omega (arith, word.before, high.within))
      (has_bit-at ws k j high.within ∙ ap (λ b. b == 1) high.set)
      (λ i above below. none_at ws i (grind (arith, word, high, bit_at-zero)))

  -- zeros have no position
  none_in_zeros : AreZeros ws → positions ≡ []
  none_in_zeros zeros =
      ascending-none (has_bit ws) 0 (64 * length ws)
      (λ i above below. none_at ws i (grind (arith, zeros (i / 64), bit_at-zero)))

  pub no_first_position : AreZeros ws → slice_get positions 0 ≡ None
  no_first_position zeros = ap (λ xs. slice_get xs 0) (none_in_zeros zeros)

  pub no_last_position : AreZeros ws → last_or None positions ≡ None
  no_last_position zeros = ap (last_or None) (none_in_zeros zeros)
