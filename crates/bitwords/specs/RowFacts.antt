-- The bits of a row of words and the positions of a range, for those who see words as positions.
use Rattle.std.proofs.Common.{◌≡◌, ℕ, ◌+◌, ◌*◌, ◌/◌, ◌%◌, ◌^◌, ◌<◌, ◌≤◌, false}
use Rattle.std.proofs.Common.{◌==◌, List, length, get_or, ap, ◌∙◌, arith, map, not}
use Rattle.std.specs.Int.{bit_not, w64}
use Rattle.std.proofs.lemmas.Bool.Decides.{nat_tests}
use Rattle.std.proofs.lemmas.List.{get_or-map, get_or_past}
use Rattle.std.proofs.lemmas.Nat.Bits.{bit_at-zero}
use Rattle.bitlanes.specs.Bits.{bit}
use Rattle.bitlanes.specs.BitLaws.{bit-not}
use Rattle.bitwords.specs.Rows.{has_bit, in_range}

-- each number is a word
abbrev pub AreWords : List ℕ → Type 0
AreWords ws = (k : ℕ) → get_or ws k 0 < 2 ^ 64

pub bit-zero : (i : ℕ) → bit 0 i ≡ false
bit-zero i = ap (λ x. x == 1) (bit_at-zero i)

-- no position stands past the words
pub has_bit-past : (ws : List ℕ) (p : ℕ) → 64 * length ws ≤ p → has_bit ws p ≡ false
unfolding has_bit
has_bit-past ws p past = ap (λ w. bit w (p % 64)) (get_or_past ws (p / 64) 0 (omega arith)) ∙ bit-zero (p % 64)

-- bit i of word k
pub has_bit-at : (ws : List ℕ) (k i : ℕ) → i < 64 → has_bit ws (64 * k + i) ≡ bit (get_or ws k 0) i
unfolding has_bit
has_bit-at ws k i h =
    let quotient : (64 * k + i) / 64 ≡ k = omega arith in
    let rest : (64 * k + i) % 64 ≡ i = omega arith in
    λ j. bit (get_or ws (quotient j) 0) (rest j)

-- rows with the same words have the same bits
pub has_bit-same : (xs ys : List ℕ) → ((k : ℕ) → get_or xs k 0 ≡ get_or ys k 0) → (p : ℕ) → has_bit xs p ≡ has_bit ys p
unfolding has_bit
has_bit-same xs ys same p = ap (λ w. bit w (p % 64)) (same (p / 64))

-- a bit of an inverted word
pub has_bit-inverted : (ws : List ℕ) (p : ℕ) → AreWords ws → p < 64 * length ws
    → has_bit (map (bit_not w64) ws) p ≡ not (has_bit ws p)
unfolding has_bit
has_bit-inverted ws p are below =
    rw (get_or-map (bit_not w64) ws (p / 64) 0 0 (omega arith))
    (bit-not (get_or ws (p / 64) 0) (p % 64) (are (p / 64)) (omega arith))

-- ---- ranges

pub before_range : (start end p : ℕ) → p < start → in_range start end p ≡ false
before_range start end p h = grind (arith, nat_tests)

pub past_range : (start end p : ℕ) → end ≤ p → in_range start end p ≡ false
past_range start end p h = grind (arith, nat_tests)
