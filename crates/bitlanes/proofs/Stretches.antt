-- words whose bits in one stretch are set, and no other
use Rattle.std.proofs.Common.{◌≡◌, ℕ, suc, ◌-◌, ◌/◌, ◌*◌, ◌%◌, ◌^◌, ◌<◌, ◌≤◌}
use Rattle.std.proofs.Common.{◌&&◌, nat_lt, nat_le, sym, ap, ◌∙◌, arith, pow_mono}
use Rattle.std.proofs.lemmas.Bool.Decides.{nat_tests}
use Rattle.std.proofs.lemmas.Nat.{one_shl, pow_pos, pow-add}
use Rattle.std.proofs.lemmas.Nat.Bits.{bit_at_ones, bit_at_ones_above, bit_at-zero, bit_at_mask_inside}
use Rattle.std.proofs.lemmas.Nat.Bits.{bit_at_mask_below, bit_at_mask_above, ones_shr}
use Rattle.bitlanes.specs.Bits.{bit}

bit-ones : (k i : ℕ) → bit (2 ^ k - 1) i ≡ nat_lt i k
bit-ones k i = grind (arith, nat_tests, bit_at_ones k i, bit_at_ones_above k i)

-- the ones below a place in the word
pub some_ones : (k i : ℕ) → k < 64 → bit (1 * 2 ^ k % 2 ^ 64 - 1) i ≡ nat_lt i k
some_ones k i inside = rw (one_shl k 64 inside) (bit-ones k i)

-- the ones below the end of the word
pub all_ones : (k i : ℕ) → k ≤ 64 → 64 ≤ k → bit (2 ^ 64 - 1) i ≡ nat_lt i k
all_ones k i within past = let e : k ≡ 64 = omega arith in rw e (bit-ones 64 i)

-- as many ones as lie between, from `low` on
pub ones_from : (low high i : ℕ) → low < high → high ≤ 64
    → bit ((2 ^ 64 - 1) / 2 ^ (64 - (high - low)) * 2 ^ low % 2 ^ 64) i ≡ (nat_le low i && nat_lt i high)
ones_from low high i some within =
    let n : ℕ = high - low in
    let few : 64 - (64 - n) ≡ n = omega arith in
    let whole : 2 ^ n * 2 ^ low ≡ 2 ^ high = sym (pow-add 2 n low) ∙ ap (λ k. 2 ^ k) (omega arith) in
    let some_left : 0 < 2 ^ low = pow_pos low in
    let one_more : suc (2 ^ n - 1) ≡ 2 ^ n = omega (arith, pow_pos n) in
    let most : 2 ^ high ≤ 2 ^ 64 = pow_mono within in
    let fits : (2 ^ n - 1) * 2 ^ low % 2 ^ 64 ≡ 2 ^ high - 2 ^ low =
    omega (arith, ap (λ x. x * 2 ^ low) one_more, whole, most, some_left) in
    rw (
      ones_shr 64 (64 - n) (omega arith),
      few,
      fits,
    ) (grind
    (arith, nat_tests, bit_at_mask_inside low high i, bit_at_mask_below low high i, bit_at_mask_above low high i))

pub no_ones : (low high i : ℕ) → high ≤ low → bit 0 i ≡ (nat_le low i && nat_lt i high)
no_ones low high i none = grind (arith, nat_tests, bit_at-zero i)
