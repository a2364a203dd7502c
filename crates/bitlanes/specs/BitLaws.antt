-- the operations on words, bit by bit, and that they give words
use Rattle.std.specs.Prelude.{◌≡◌, ℕ, ◌+◌, ◌-◌, ◌<◌, ◌≤◌, ◌*◌, ◌%◌, ◌^◌, Bool, true, false}
use Rattle.std.specs.Prelude.{◌==◌, ◌&&◌, ◌||◌, not, bit_and, bit_or, bit_xor, refl}
use Rattle.std.specs.Int.{bit_at, bit_not, w64}
use Rattle.std.specs.Int.Bits.{and_lt}
use Rattle.std.proofs.Common.{◌∙◌, ap, sym, arith, zero, suc, min, max, ◌⊎◌, inl, inr}
use Rattle.std.proofs.lemmas.Nat.Bits.{bit_at_and, bit_at_or, bit_at_xor, bit_at_not, bit_at-lt, bit_at_above, and_pow}
use Rattle.std.proofs.lemmas.Nat.{or_lt, xor_lt, and_le_l, one_shl, pow_pos}
use Rattle.std.proofs.lemmas.Bool.{ne_eqb}
use Rattle.std.proofs.lemmas.Bool.Decides.{leb_tells}
use lib.Dec.{leb}
use Rattle.bitlanes.specs.Bits.{bit, either, bit_without}
use Rattle.bitlanes.specs.Ops.{IsWordOp}

-- where f of two binary digits is the truth function t at each of the four pairs, it is t
digits : (f : ℕ → ℕ → ℕ) (t : Bool → Bool → Bool)
    → (f 0 0 == 1) ≡ t false false → (f 0 1 == 1) ≡ t false true → (f 1 0 == 1) ≡ t true false
    → (f 1 1 == 1) ≡ t true true
    → (x y : ℕ) → x < 2 → y < 2 → (f x y == 1) ≡ t (x == 1) (y == 1)
digits f t neither second first both zero zero p q = neither
digits f t neither second first both zero (suc zero) p q = second
digits f t neither second first both (suc zero) zero p q = first
digits f t neither second first both (suc zero) (suc zero) p q = both
digits f t neither second first both (suc (suc x)) y p q = absurd (omega arith)
digits f t neither second first both x (suc (suc y)) p q = absurd (omega arith)

pub bit-or : (a b i : ℕ) → bit (bit_or a b) i ≡ (bit a i || bit b i)
bit-or a b i = ap (λ n. n == 1) (bit_at_or a b i)
    ∙ digits max (λ x y. x || y) refl refl refl refl (bit_at a i) (bit_at b i) (bit_at-lt a i) (bit_at-lt b i)

pub bit-and : (a b i : ℕ) → bit (bit_and a b) i ≡ (bit a i && bit b i)
bit-and a b i = ap (λ n. n == 1) (bit_at_and a b i)
    ∙ digits min (λ x y. x && y) refl refl refl refl (bit_at a i) (bit_at b i) (bit_at-lt a i) (bit_at-lt b i)

pub bit-xor : (a b i : ℕ) → bit (bit_xor a b) i ≡ either (bit a i) (bit b i)
bit-xor a b i = ap (λ n. n == 1) (bit_at_xor a b i)
    ∙ digits (λ x y. (x + y) % 2) either refl refl refl refl (bit_at a i) (bit_at b i) (bit_at-lt a i) (bit_at-lt b i)

pub without_fits : (a b : ℕ) → a < 2 ^ 64 → bit_without a b < 2 ^ 64
without_fits a b p = let le : bit_without a b ≤ a = and_le_l a (bit_not w64 b) in omega arith

-- below place 64 by the digits; from there on a has no bit
without_at : (a b i : ℕ) → a < 2 ^ 64 → b < 2 ^ 64 → ((leb 64 i ≡ true) × (64 ≤ i)) ⊎ ((leb 64 i ≡ false) × (i < 64))
    → bit (bit_without a b) i ≡ (bit a i && not (bit b i))
without_at a b i p q (inr (_, below)) =
    ap (λ n. n == 1) (bit_at_and a (bit_not w64 b) i ∙ ap (λ n. min (bit_at a i) n) (bit_at_not w64 b i q below))
    ∙ digits (λ x y. min x (1 - y)) (λ x y. x && not y) refl refl refl refl (bit_at a i) (bit_at b i) (bit_at-lt a i)
    (bit_at-lt b i)
without_at a b i p q (inl (_, above)) =
    ap (λ n. n == 1) (bit_at_above (bit_without a b) 64 i (without_fits a b p) above)
    ∙ sym (ap (λ n. (n == 1) && not (bit b i)) (bit_at_above a 64 i p above))

pub bit-without : (a b i : ℕ) → a < 2 ^ 64 → b < 2 ^ 64 → bit (bit_without a b) i ≡ (bit a i && not (bit b i))
bit-without a b i p q = without_at a b i p q (leb_tells 64 i)

-- a bit of the inverted word
pub bit-not : (a i : ℕ) → a < 2 ^ 64 → i < 64 → bit (bit_not w64 a) i ≡ not (bit a i)
bit-not a i p below = ap (λ n. n == 1) (bit_at_not w64 a i p below) ∙ flipped (bit_at a i) (bit_at-lt a i)
  where
    flipped : (x : ℕ) → x < 2 → (1 - x == 1) ≡ not (x == 1)
    flipped zero h = refl
    flipped (suc zero) h = refl
    flipped (suc (suc x)) h = absurd (omega arith)

-- ---- the test `x & (1 << k) != 0`

test_pow : (b k : ℕ) → b < 2 → not (b * 2 ^ k == 0) ≡ (b == 1)
test_pow zero k h = let e : 0 * 2 ^ k ≡ 0 = omega arith in rw e
test_pow (suc zero) k h =
    let p : 0 < 2 ^ k = pow_pos k in let e : (1 * 2 ^ k == 0) ≡ false = ne_eqb _ _ (λ e. omega arith) in ap not e
test_pow (suc (suc b)) k h = absurd (omega arith)

pub test_of_and : (x k : ℕ) → k < 64 → not (bit_and x (1 * 2 ^ k % 2 ^ 64) == 0) ≡ bit x k
test_of_and x k h = rw (one_shl k 64 h, and_pow) (test_pow (bit_at x k) k (bit_at-lt x k))

-- ---- the laws of the four operations

pub laws_of_or : IsWordOp bit_or (λ x y. x || y) true true
laws_of_or = record {
  by_bits = λ a b i p q. bit-or a b i;
  fits = or_lt 64;
  of_neither = refl;
  of_first = elim [ true ↦ refl | false ↦ refl ];
  of_second = elim [ true ↦ refl | false ↦ refl ];
}

pub laws_of_and : IsWordOp bit_and (λ x y. x && y) false false
laws_of_and = record {
  by_bits = λ a b i p q. bit-and a b i;
  fits = and_lt 64;
  of_neither = refl;
  of_first = elim [ true ↦ refl | false ↦ refl ];
  of_second = elim [ true ↦ refl | false ↦ refl ];
}

pub laws_of_without : IsWordOp bit_without (λ x y. x && not y) true false
laws_of_without = record {
  by_bits = bit-without;
  fits = λ a b p q. without_fits a b p;
  of_neither = refl;
  of_first = elim [ true ↦ refl | false ↦ refl ];
  of_second = elim [ true ↦ refl | false ↦ refl ];
}

pub laws_of_xor : IsWordOp bit_xor either true true
laws_of_xor = record {
  by_bits = λ a b i p q. bit-xor a b i;
  fits = xor_lt 64;
  of_neither = refl;
  of_first = elim [ true ↦ refl | false ↦ refl ];
  of_second = elim [ true ↦ refl | false ↦ refl ];
}

pub laws_of_second : IsWordOp (λ x y. y) (λ x y. y) false true
laws_of_second = record {
  by_bits = λ a b i p q. refl;
  fits = λ a b p q. q;
  of_neither = refl;
  of_first = λ x. refl;
  of_second = elim [ true ↦ refl | false ↦ refl ];
}
