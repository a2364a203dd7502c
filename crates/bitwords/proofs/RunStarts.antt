-- Runs of bits, as a word is joined with itself moved down.
use Rattle.std.proofs.Common.{◌≡◌, ℕ, zero, suc, ◌+◌, ◌-◌, ◌/◌, ◌%◌, ◌^◌, ◌<◌, ◌≤◌, ◌==◌}
use Rattle.std.proofs.Common.{◌&&◌, Bool, true, false, refl, sym, ap, ◌∙◌, arith, bit_and}
use Rattle.std.proofs.lemmas.Nat.Bits.{bit_at_above, bit_at-zero}
use Rattle.std.proofs.lemmas.Nat.{shr-shr}
use Rattle.bitlanes.specs.Bits.{bit}
use Rattle.bitlanes.specs.BitLaws.{bit-and}
use Rattle.bitwords.specs.Gaps.{has_run, all_pass}
use Rattle.bitwords.specs.GapsFacts.{pass-fails}

-- a run is its first m numbers and the n behind them
pub pass-append : (t : ℕ → Bool) (m n i : ℕ) → all_pass t (m + n) i ≡ (all_pass t m i && all_pass t n (i + m))
pass-append t zero n i = let a : zero + n ≡ n = omega arith in let b : i + zero ≡ i = omega arith in rw (a, b) refl
pass-append t (suc m) n i =
    let a : suc m + n ≡ suc (m + n) = omega arith in
    let b : i + suc m ≡ i + 1 + m = omega arith in
    rw (a, b, pass-append t m n (i + 1)) (by_test (t i) (all_pass t m (i + 1)) (all_pass t n (i + 1 + m)))
  where
    by_test : (x y z : Bool) → (x && (y && z)) ≡ ((x && y) && z)
    by_test true y z = refl
    by_test false y z = refl

-- two runs that overlap make a longer one
pub pass-overlap : (t : ℕ → Bool) (m s i : ℕ) → s ≤ m → (all_pass t m i && all_pass t m (i + s)) ≡ all_pass t (m + s) i
pass-overlap t m s i le =
    let r : ℕ = m - s in
    let a : m ≡ s + r = omega arith in
    let b : m ≡ r + s = omega arith in
    let c : m + s ≡ s + (r + s) = omega arith in
    let first : all_pass t m i ≡ (all_pass t s i && all_pass t r (i + s)) = ap (λ k. all_pass t k i) a
    ∙ pass-append t s r i in
    let second : all_pass t m (i + s) ≡ (all_pass t r (i + s) && all_pass t s (i + s + r)) =
    ap (λ k. all_pass t k (i + s)) b ∙ pass-append t r s (i + s) in
    let whole : all_pass t (m + s) i ≡ (all_pass t s i && (all_pass t r (i + s) && all_pass t s (i + s + r))) =
    ap (λ k. all_pass t k i) c ∙ pass-append t s (r + s) i
    ∙ ap (λ x. all_pass t s i && x) (pass-append t r s (i + s)) in
    rw (first, second, whole) (by_test (all_pass t s i) (all_pass t r (i + s)) (all_pass t s (i + s + r)))
  where
    by_test : (x y z : Bool) → ((x && y) && (y && z)) ≡ (x && (y && z))
    by_test true true z = refl
    by_test true false z = refl
    by_test false y z = refl

-- a word moved down
pub bit-down : (word s i : ℕ) → bit (word / 2 ^ s) i ≡ bit word (i + s)
bit-down word s i =
    let e : s + i ≡ i + s = omega arith in ap (λ x. x % 2 == 1) (shr-shr word s i ∙ ap (λ k. word / 2 ^ k) e)

-- one step of the doubling
pub run-doubled : (word starts m s i : ℕ) → s ≤ m → ((i : ℕ) → bit starts i ≡ has_run word m i)
    → bit (bit_and starts (starts / 2 ^ s)) i ≡ has_run word (m + s) i
run-doubled word starts m s i le is =
    bit-and starts (starts / 2 ^ s) i ∙ ap (λ x. bit starts i && x) (bit-down starts s i)
    ∙ (let a = is i in let b = is (i + s) in λ j. a j && b j) ∙ pass-overlap (bit word) m s i le

-- ---- runs, number by number

-- each that is asked passes
pub pass-holds : (t : ℕ → Bool) (k i : ℕ) → ((r : ℕ) → i ≤ r → r < i + k → t r ≡ true) → all_pass t k i ≡ true
pass-holds t zero i holds = refl
pass-holds t (suc k) i holds =
    let here : t i ≡ true = holds i (omega arith) (omega arith) in
    let rest = pass-holds t k (i + 1) (λ r from to. holds r (omega arith) (omega arith)) in
    λ j. here j && rest j

-- two tests that agree, one of them moved
pub pass-same : (t u : ℕ → Bool) (k i j : ℕ) → ((x : ℕ) → x < k → t (i + x) ≡ u (j + x))
    → all_pass t k i ≡ all_pass u k j
pass-same t u zero i j same = refl
pass-same t u (suc k) i j same =
    let a : i + 0 ≡ i = omega arith in
    let b : j + 0 ≡ j = omega arith in
    let here : t i ≡ u j = sym (ap t a) ∙ same 0 (omega arith) ∙ ap u b in
    let rest = pass-same t u k (i + 1) (j + 1) (λ x below.
    let c : i + 1 + x ≡ i + (x + 1) = omega arith in
    let d : j + (x + 1) ≡ j + 1 + x = omega arith in
    ap t c ∙ same (x + 1) (omega arith) ∙ ap u d) in
    λ z. here z && rest z

-- no run is longer than the word
pub run-too-long : (word count i : ℕ) → word < 2 ^ 64 → 64 < count → bit 0 i ≡ has_run word count i
run-too-long word count i fits long =
    let none : bit 0 i ≡ false = ap (λ d. d == 1) (bit_at-zero i) in
    let past : bit word (i + 64) ≡ false = ap (λ d. d == 1) (bit_at_above word 64 (i + 64) fits (omega arith)) in
    none ∙ sym (pass-fails (bit word) count i (i + 64) (omega arith) (omega arith) past)
