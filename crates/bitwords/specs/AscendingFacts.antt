-- How an ascending list falls into parts, for those who make one.
use Rattle.std.specs.Prelude.{slice_get}
use Rattle.std.proofs.Common.{inl, inr, ◌≡◌, ◌≢◌, ℕ, zero, suc, ◌+◌, ◌<◌, ◌≤◌, Bool, true, false, cond, not, ◌==◌}
use Rattle.std.proofs.Common.{◌&&◌, Option, None, Some, List, [], ◌∷◌, ◌++◌, refl, sym, ap, ◌∙◌, arith, filter, length}
use Rattle.std.specs.List.{range_with_len, last_or}
use Rattle.std.proofs.lemmas.List.{append-nil}
use Rattle.std.proofs.lemmas.List.Elements.{filter-append}
use Rattle.std.proofs.lemmas.List.Sums.{length-filter, count_by-le-length}
use Rattle.std.proofs.lemmas.List.FromFn.{length-range_with_len}
use Rattle.std.proofs.lemmas.Bool.{cases_eq, eq-eqb, ne_eqb}
use Rattle.bitwords.specs.Ascending.{ascending}
use Rattle.bitwords.specs.Rows.{count_below}

pub range-append : (low m n : ℕ) → range_with_len low (m + n) ≡ range_with_len low m ++ range_with_len (low + m) n
range-append low zero n = let a : zero + n ≡ n = omega arith in let b : low + zero ≡ low = omega arith in rw (a, b)
range-append low (suc m) n =
    let a : suc m + n ≡ suc (m + n) = omega arith in
    let b : low + suc m ≡ low + 1 + m = omega arith in
    rw (a, b) (ap (λ xs. low ∷ xs) (range-append (low + 1) m n))

-- a list of numbers, cut
pub ascending-append : (test : ℕ → Bool) (low m n : ℕ)
    → ascending test low (m + n) ≡ ascending test low m ++ ascending test (low + m) n
ascending-append test low m n =
    ap (filter test) (range-append low m n) ∙ filter-append test (range_with_len low m) (range_with_len (low + m) n)

-- two tests that agree there give one list
pub ascending-same : (p q : ℕ → Bool) (low n : ℕ) → ((i : ℕ) → low ≤ i → i < low + n → p i ≡ q i)
    → ascending p low n ≡ ascending q low n
ascending-same p q low zero agree = refl
ascending-same p q low (suc n) agree =
    let here : p low ≡ q low = agree low (omega arith) (omega arith) in
    let rest = ascending-same p q (low + 1) n (λ i above below. agree i (omega arith) (omega arith)) in
    λ j. cond (here j) (low ∷ rest j) (rest j)

-- where none passes the list is empty
pub ascending-none : (p : ℕ → Bool) (low n : ℕ) → ((i : ℕ) → low ≤ i → i < low + n → p i ≡ false)
    → ascending p low n ≡ []
ascending-none p low zero none = refl
ascending-none p low (suc n) none =
    let here : p low ≡ false = none low (omega arith) (omega arith) in
    let rest = ascending-none p (low + 1) n (λ i above below. none i (omega arith) (omega arith)) in
    λ j. cond (here j) (low ∷ ascending p (low + 1) n) (rest j)

-- where the first m fail, and p and q agree on the others
pub ascending-skip : (p q : ℕ → Bool) (low m n : ℕ) → ((i : ℕ) → low ≤ i → i < low + m → p i ≡ false)
    → ((i : ℕ) → low + m ≤ i → i < low + m + n → p i ≡ q i) → ascending p low (m + n) ≡ ascending q (low + m) n
ascending-skip p q low m n none agree =
    let before = ascending-none p low m none in
    let after = ascending-same p q (low + m) n agree in
    ascending-append p low m n ∙ (λ j. before j ++ after j)

-- where the last n fail, and p and q agree on the others
pub ascending-cut : (p q : ℕ → Bool) (low m n : ℕ) → ((i : ℕ) → low ≤ i → i < low + m → p i ≡ q i)
    → ((i : ℕ) → low + m ≤ i → i < low + m + n → p i ≡ false) → ascending p low (m + n) ≡ ascending q low m
ascending-cut p q low m n agree none =
    let before = ascending-same p q low m agree in
    let after = ascending-none p (low + m) n none in
    ascending-append p low m n ∙ (λ j. before j ++ after j) ∙ append-nil (ascending q low m)

-- q passes what p does but x, which p passes
pub record IsWithout (p q : ℕ → Bool) (low n x : ℕ) : Type 0 where
  pub from : low ≤ x
  pub to : x < low + n
  pub passes : p x ≡ true
  pub gone : q x ≡ false
  pub others : (i : ℕ) → low ≤ i → i < low + n → i ≢ x → q i ≡ p i

-- the first that passes is the head of the list
pub ascending-first : (p q : ℕ → Bool) (low n x : ℕ) → IsWithout p q low n x → ((i : ℕ) → low ≤ i → i < x → p i ≡ false)
    → ascending p low n ≡ x ∷ ascending q low n
ascending-first p q low zero x without below = absurd (omega (arith, without.from, without.to))
ascending-first p q low (suc n) x without below =
    elim (cases_eq low x) [
      | inl here ↦
          let passes : p low ≡ true = ap p here ∙ without.passes in
          let gone : false ≡ q low = sym (ap q here ∙ without.gone) in
          let rest = ascending-same p q (low + 1) n
          (λ i above within. sym (without.others i (omega arith) (omega arith) (omega arith))) in
          (λ j. cond (passes j) (low ∷ rest j) (rest j))
          ∙ (λ j. here j ∷ cond (gone j) (low ∷ ascending q (low + 1) n) (ascending q (low + 1) n))
      | inr later ↦
          let none : p low ≡ false = below low (omega arith) (omega arith) in
          let gone : false ≡ q low = sym (without.others low (omega arith) (omega arith) later ∙ none) in
          let rest = ascending-first p q (low + 1) n x
          (record {
            from = omega (arith, without.from, later);
            to = omega (arith, without.to);
            passes = without.passes;
            gone = without.gone;
            others = λ i above within other. without.others i (omega arith) (omega arith) other;
          }) (λ i above lower. below i (omega arith) lower) in
          (λ j. cond (none j) (low ∷ ascending p (low + 1) n) (rest j))
          ∙ (λ j. x ∷ cond (gone j) (low ∷ ascending q (low + 1) n) (ascending q (low + 1) n))
    ]

-- the last that passes is the end of the list
pub ascending-last : (p q : ℕ → Bool) (low n x : ℕ) → IsWithout p q low n x
    → ((i : ℕ) → x < i → i < low + n → p i ≡ false) → ascending p low n ≡ ascending q low n ++ x ∷ []
ascending-last p q low zero x without above = absurd (omega (arith, without.from, without.to))
ascending-last p q low (suc n) x without above =
    elim (cases_eq low x) [
      | inl here ↦
          let passes : p low ≡ true = ap p here ∙ without.passes in
          let gone : q low ≡ false = ap q here ∙ without.gone in
          let none = ascending-none p (low + 1) n (λ i from within. above i (omega arith) (omega arith)) in
          let also = ascending-same q p (low + 1) n
          (λ i from within. without.others i (omega arith) (omega arith) (omega arith)) ∙ none in
          rw (passes, gone, none, also, here)
      | inr later ↦
          let same : q low ≡ p low = without.others low (omega arith) (omega arith) later in
          let rest = ascending-last p q (low + 1) n x
          (record {
            from = omega (arith, without.from, later);
            to = omega (arith, without.to);
            passes = without.passes;
            gone = without.gone;
            others = λ i from within other. without.others i (omega arith) (omega arith) other;
          }) (λ i over within. above i over (omega arith)) in
          rw (same, rest) (by_test (p low) (ascending q (low + 1) n))
    ]
  where
    by_test : (b : Bool) (xs : List ℕ) → cond b (low ∷ (xs ++ x ∷ [])) (xs ++ x ∷ []) ≡ cond b (low ∷ xs) xs ++ x ∷ []
    by_test true xs = refl
    by_test false xs = refl

-- at most as many pass as there are
pub length-ascending : (p : ℕ → Bool) (low n : ℕ) → length (ascending p low n) ≤ n
length-ascending p low n =
    omega (
      arith,
      length-filter p (range_with_len low n),
      count_by-le-length p (range_with_len low n),
      length-range_with_len low n,
    )

-- a test of the items is a test of the numbers
pub filter-ascending : (p q : ℕ → Bool) (low n : ℕ) → filter q (ascending p low n) ≡ ascending (λ i. p i && q i) low n
filter-ascending p q low zero = refl
filter-ascending p q low (suc n) = by_test (p low) (ascending p (low + 1) n)
    ∙ (let rest = filter-ascending p q (low + 1) n in λ j. cond (p low && q low) (low ∷ rest j) (rest j))
  where
    by_test : (b : Bool) (xs : List ℕ)
        → filter q (cond b (low ∷ xs) xs) ≡ cond (b && q low) (low ∷ filter q xs) (filter q xs)
    by_test true xs = refl
    by_test false xs = refl

-- as many pass as there are numbers that do
pub length-count : (p : ℕ → Bool) (n : ℕ) → length (ascending p 0 n) ≡ count_below p n
unfolding count_below
length-count p n = length-filter p (range_with_len 0 n)

-- ---- the first and the last that pass

-- what passes, without x
without : (ℕ → Bool) → ℕ → ℕ → Bool
without test x i = test i && not (i == x)

is_without : (test : ℕ → Bool) (n x : ℕ) → x < n → test x ≡ true → IsWithout test (without test x) 0 n x
unfolding without
is_without test n x to passes = record {
  from = omega arith;
  to = omega (arith, to);
  passes = passes;
  gone = (let same = eq-eqb x x refl in λ i. passes i && not (same i));
  others = λ i above below other. and_true (test i) (not (i == x)) (ap not (ne_eqb i x other));
}
  where
    and_true : (b c : Bool) → c ≡ true → (b && c) ≡ b
    and_true true c e = e
    and_true false c e = refl

last_or-push : (o : Option ℕ) (xs : List ℕ) (x : ℕ) → last_or o (xs ++ x ∷ []) ≡ Some x
last_or-push o [] x = refl
last_or-push o (y ∷ xs) x = last_or-push (Some y) xs x

-- what passes, with none before it that does, is the first
pub first-ascending : (test : ℕ → Bool) (n x : ℕ) → x < n → test x ≡ true → ((i : ℕ) → i < x → test i ≡ false)
    → slice_get (ascending test 0 n) 0 ≡ Some x
first-ascending test n x within passes none =
    ap (λ xs. slice_get xs 0)
    (ascending-first test (without test x) 0 n x (is_without test n x within passes) (λ i _ below. none i below))

-- the same, from `low` on
pub first-from : (test : ℕ → Bool) (low n x : ℕ) → low ≤ x → x < low + n → test x ≡ true
    → ((i : ℕ) → low ≤ i → i < x → test i ≡ false) → slice_get (ascending test low n) 0 ≡ Some x
first-from test low zero x from to passes none = absurd (omega arith)
first-from test low (suc n) x from to passes none =
    elim (cases_eq low x) [
      | inl here ↦
          let passes_here : test low ≡ true = ap test here ∙ passes in
          (λ j. slice_get (cond (passes_here j) (low ∷ ascending test (low + 1) n) (ascending test (low + 1) n)) 0)
          ∙ ap (λ y. Some y) here
      | inr later ↦
          let fails : test low ≡ false = none low (omega arith) (omega arith) in
          (λ j. slice_get (cond (fails j) (low ∷ ascending test (low + 1) n) (ascending test (low + 1) n)) 0)
          ∙ first-from test (low + 1) n x (omega arith) (omega arith) passes
          (λ i above below. none i (omega arith) below)
    ]

-- what passes, with none behind it that does, is the last
pub last-ascending : (test : ℕ → Bool) (n x : ℕ) → x < n → test x ≡ true → ((i : ℕ) → x < i → i < n → test i ≡ false)
    → last_or None (ascending test 0 n) ≡ Some x
last-ascending test n x within passes none =
    ap (last_or None) (ascending-last test (without test x) 0 n x (is_without test n x within passes)
    (λ i above below. none i above (omega (arith, below))))
    ∙ last_or-push None (ascending (without test x) 0 n) x
