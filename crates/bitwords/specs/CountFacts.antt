-- How many numbers below a bound pass a test, for those who count positions.
use Rattle.std.proofs.Common.{◌≡◌, ℕ, zero, suc, ◌+◌, ◌<◌, ◌≤◌, ◌-◌, Bool, true, false, cond}
use Rattle.std.proofs.Common.{◌&&◌, nat_lt, [], ◌∷◌, ◌++◌, count_by, refl, ap, ◌∙◌, arith}
use Rattle.std.specs.List.{range_with_len}
use Rattle.std.proofs.lemmas.Bool.{le-leb, lt-ltb, and_from, false_from_ne_true, leb-true}
use Rattle.std.proofs.lemmas.List.Sums.{sum_by-append}
use Rattle.bitwords.specs.Rows.{count_below, in_range}

-- a truth as a number
abbrev pub indicator : Bool → ℕ
indicator b = cond b 1 0

pub indicator_le : (b : Bool) → indicator b ≤ 1
indicator_le true = omega arith
indicator_le false = omega arith

pub range-push : (a n : ℕ) → range_with_len a (suc n) ≡ range_with_len a n ++ (a + n) ∷ []
range-push a zero = let e : a ≡ a + 0 = omega arith in ap (λ x. x ∷ []) e
range-push a (suc n) = ap (λ xs. a ∷ xs) (range-push (a + 1) n)
    ∙ (let e : (a + 1) + n ≡ a + suc n = omega arith in ap (λ x. a ∷ (range_with_len (a + 1) n ++ x ∷ [])) e)

pub count-zero : (c : ℕ → Bool) → count_below c 0 ≡ 0
unfolding count_below
count-zero c = refl

pub count-suc : (c : ℕ → Bool) (n : ℕ) → count_below c (suc n) ≡ count_below c n + indicator (c n)
unfolding count_below
count-suc c n =
    ap (count_by c) (range-push 0 n)
    ∙ sum_by-append (λ p. cond (c p) 1 0) (range_with_len 0 n) ((0 + n) ∷ [])
    ∙ (let e : 0 + n ≡ n = omega arith in ap (λ m. count_by c (range_with_len 0 n) + count_by c (m ∷ [])) e)
    ∙ (let e : count_by c (n ∷ []) ≡ cond (c n) 1 0 = omega arith in ap (λ m. count_by c (range_with_len 0 n) + m) e)

-- tests that agree below the bound
pub count-same : (c d : ℕ → Bool) (n : ℕ) → ((p : ℕ) → p < n → c p ≡ d p) → count_below c n ≡ count_below d n
count-same c d zero same = omega (arith, count-zero c, count-zero d)
count-same c d (suc n) same =
    omega (
      arith,
      count-suc c n,
      count-suc d n,
      count-same c d n (λ p h. same p (omega arith)),
      ap indicator (same n (omega arith)),
    )

pub count-append : (c : ℕ → Bool) (a b : ℕ) → count_below c (a + b) ≡ count_below c a + count_below (λ i. c (a + i)) b
count-append c a zero =
    let e : a + 0 ≡ a = omega arith in omega (arith, ap (count_below c) e, count-zero (λ i. c (a + i)))
count-append c a (suc b) =
    let e : a + suc b ≡ suc (a + b) = omega arith in
    omega (arith, ap (count_below c) e, count-suc c (a + b), count-append c a b, count-suc (λ i. c (a + i)) b)

-- where none passes
pub count-none : (c : ℕ → Bool) (n : ℕ) → ((p : ℕ) → p < n → c p ≡ false) → count_below c n ≡ 0
count-none c zero none = count-zero c
count-none c (suc n) none =
    omega (arith, count-suc c n, count-none c n (λ p h. none p (omega arith)), ap indicator (none n (omega arith)))

-- no more pass than there are
pub count-le : (c : ℕ → Bool) (n : ℕ) → count_below c n ≤ n
count-le c zero = omega (arith, count-zero c)
count-le c (suc n) = omega (arith, count-suc c n, count-le c n, indicator_le (c n))

pub count-mono : (c : ℕ → Bool) (m n : ℕ) → m ≤ n → count_below c m ≤ count_below c n
count-mono c m n le =
    let e : n ≡ m + (n - m) = omega arith in omega (arith, ap (count_below c) e, count-append c m (n - m))

-- where none between m and n passes, as many pass below either
pub count-shorter : (c : ℕ → Bool) (m n : ℕ) → m ≤ n → ((p : ℕ) → m ≤ p → p < n → c p ≡ false)
    → count_below c n ≡ count_below c m
count-shorter c m n le none =
    let e : n ≡ m + (n - m) = omega arith in
    omega (
      arith,
      ap (count_below c) e,
      count-append c m (n - m),
      count-none (λ i. c (m + i)) (n - m) (λ i h. none (m + i) (omega arith) (omega arith)),
    )

-- those of a range that pass
pub count-in_range : (c : ℕ → Bool) (start end : ℕ) → start ≤ end
    → count_below (λ p. in_range start end p && c p) end + count_below c start ≡ count_below c end
count-in_range c start end le =
    let inside : (i : ℕ) → i < end - start → (in_range start end (start + i) && c (start + i)) ≡ c (start + i) =
    λ i h.
    ap (λ b. b && c (start + i))
    (and_from _ _ (le-leb start (start + i) (omega arith)) (lt-ltb (start + i) end (omega arith))) in
    let outside : (p : ℕ) → p < start → (in_range start end p && c p) ≡ false =
    λ p h.
    ap (λ b. (b && nat_lt p end) && c p)
    (false_from_ne_true _ (λ one. let l : start ≤ p = leb-true start p one in absurd (omega arith))) in
    let e : end ≡ start + (end - start) = omega arith in
    omega (
      arith,
      ap (count_below (λ p. in_range start end p && c p)) e,
      count-append (λ p. in_range start end p && c p) start (end - start),
      count-none (λ p. in_range start end p && c p) start outside,
      count-same (λ i. in_range start end (start + i) && c (start + i)) (λ i. c (start + i)) (end - start) inside,
      ap (count_below c) e,
      count-append c start (end - start),
    )
