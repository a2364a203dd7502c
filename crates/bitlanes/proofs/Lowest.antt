-- The word without its lowest bit.
use Rattle.std.proofs.Common.{◌≡◌, ◌+◌, ◌-◌, ◌*◌, ◌/◌, ◌%◌, ◌^◌, ◌<◌, ℕ, suc, ap, arith, bit_and, pow-suc, pow_pos}
use Rattle.std.specs.Int.{bit_at}
use Rattle.std.proofs.lemmas.Nat.Bits.{bit_at_and, bit_at_ones_above, bit_at-zero}
use Rattle.std.proofs.lemmas.Nat.Bits.{bit_at_cat_low, bit_at_cat_high, same_from_bits_below}
use Rattle.bitlanes.specs.Word.{IsLowestBit, ClearsBit}

module _ (n k : ℕ) (is : IsLowestBit n k) where
  -- the bits above the lowest one, as a number
  abbrev above : ℕ
  above = n / 2 ^ k / 2

  -- no bit stands below the lowest one
  whole : n ≡ above * 2 ^ suc k + 2 ^ k
  whole =
      let room : 0 < 2 ^ k = pow_pos k in
      let parts : n / 2 ^ k * 2 ^ k + n % 2 ^ k ≡ n = omega arith in
      let unset : (i : ℕ) → i < k
      → bit_at (n % 2 ^ k) i ≡ bit_at 0 i =
      λ i lt.
      cc (bit_at_cat_low (n / 2 ^ k) k (n % 2 ^ k) i lt, ap (λ x. bit_at x i) parts, is.lowest i lt, bit_at-zero i) in
      let none : n % 2 ^ k ≡ 0 = same_from_bits_below k (n % 2 ^ k) 0 (omega arith) room unset in
      let odd : n / 2 ^ k ≡ 2 * above + 1 = omega (arith, is.set) in
      omega (arith, ap (λ x. x * 2 ^ k) odd, ap (λ x. above * x) (pow-suc 2 k))

  -- one less has the same bits above it, and the lowest one clear
  less : n - 1 ≡ above * 2 ^ suc k + (2 ^ k - 1)
  less = omega (arith, whole, pow_pos k)

  bits_above : (i : ℕ) → k < i → bit_at (n - 1) i ≡ bit_at n i
  bits_above i past =
      let first = bit_at_cat_high above (suc k) (2 ^ k - 1) i (omega (arith, pow-suc 2 k, pow_pos k)) (omega arith) in
      let last = bit_at_cat_high above (suc k) (2 ^ k) i (omega (arith, pow-suc 2 k, pow_pos k)) (omega arith) in
      cc (ap (λ x. bit_at x i) less, ap (λ x. bit_at x i) whole, first, last)

  bit_itself : bit_at (n - 1) k ≡ 0
  bit_itself = rw (less, bit_at_cat_low above (suc k) (2 ^ k - 1) k (omega arith)) (bit_at_ones_above k k (omega arith))

  -- `n & (n - 1)` clears the lowest bit
  pub clears_lowest : ClearsBit n (bit_and n (n - 1)) k
  clears_lowest = record {
    clear = omega (arith, bit_at_and n (n - 1) k, bit_itself);
    others = λ i within other. grind (arith, bit_at_and n (n - 1) i, is.lowest i, bits_above i);
  }
