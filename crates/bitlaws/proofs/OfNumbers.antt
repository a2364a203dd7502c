-- Numbers that are written over positions of a set and read there.
use Rattle.std.proofs.Common.{◌≡◌, ℕ, ◌+◌, ◌-◌, ◌%◌, ◌^◌, ◌/◌, ◌<◌, ◌≤◌, sym, ap, ◌∙◌, arith}
use Rattle.std.proofs.lemmas.Bool.Decides.{nat_tests}
use Rattle.std.proofs.lemmas.Nat.{shr_split}
use Rattle.std.proofs.lemmas.Nat.Bits.{same_from_bits_below, bit_at-lt, bit_at_cat_low}
use Rattle.std.specs.Int.{bit_at}
use Rattle.std.proofs.Math.Pow.{pow_pos}
use Rattle.bitwords.specs.CountFacts.{indicator}
use Rattle.fixedbitset.specs.Bits.{Bits, contains, number_at}
use Rattle.fixedbitset.specs.BitsFacts.{same_bits, contains-past}
use Rattle.fixedbitset.specs.Parts.{store}
use Rattle.fixedbitset.specs.PartsFacts.{length-store, contains-store}
use Rattle.fixedbitset.specs.WordsFacts.{number_at-lt, bit_at-number_at}

-- a bit of the lowest ones
bit_at-cut : (number width i : ℕ) → i < width → bit_at (number % 2 ^ width) i ≡ bit_at number i
bit_at-cut number width i below =
    sym (bit_at_cat_low (number / 2 ^ width) width (number % 2 ^ width) i below)
    ∙ ap (λ n. bit_at n i) (shr_split number width)

pub stored_reads_back : (v : Bits) (start width number : ℕ) → start + width ≤ v.length
    → number_at (store v start width number) start width ≡ number % 2 ^ width
stored_reads_back v start width number fits =
    let w = store v start width number in
    let less : number % 2 ^ width < 2 ^ width = omega (arith, pow_pos width) in
    same_from_bits_below width _ _ (number_at-lt w start width) less (λ i below.
    grind (
      arith,
      nat_tests,
      bit_at-number_at w start width i below,
      contains-store v start width number (start + i),
      bit_at-cut number width i below,
      bit_at-lt number i,
    ))

-- the bit of the number that a position of its place has
bit_at-place : (v : Bits) (start width p : ℕ) → start ≤ p → p - start < width
    → bit_at (number_at v start width) (p - start) ≡ indicator (contains v p)
bit_at-place v start width p from below =
    let at : start + (p - start) ≡ p = omega (arith, from) in
    bit_at-number_at v start width (p - start) below ∙ ap (λ q. indicator (contains v q)) at

pub loaded_stays : (v : Bits) (start width : ℕ) → store v start width (number_at v start width) ≡ v
loaded_stays v start width =
    let number : ℕ = number_at v start width in
    same_bits (store v start width number) v (length-store v start width number) (λ p.
    grind (
      arith,
      nat_tests,
      contains-store v start width number p,
      bit_at-place v start width p,
      contains-past v p,
    ))
