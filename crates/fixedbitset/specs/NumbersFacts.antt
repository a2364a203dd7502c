-- The members of finite sets of numbers, and their sizes as counts.
use Rattle.std.proofs.Common.{IsTrue, ◌↔◌, nat_cmp, eq-eqb, eqb-true, ◌≡◌, ◌≢◌, ℕ, zero, suc, ◌<◌}
use Rattle.std.proofs.Common.{Bool, true, false, not, ◌&&◌, ◌==◌, sym, ap, ◌∙◌, arith, ⊎_elim}
use Rattle.std.specs.Cmp.{nat_cmp_total, unsigned_tied}
use Rattle.std.specs.FinSet as set
use Rattle.std.specs.FinSet.{FinSet}
use Rattle.std.proofs.lemmas.Bool.{cases_Bool}
use Rattle.std.proofs.lemmas.Bool.Decides.{nat_tests}
use Rattle.bitlanes.specs.Bits.{either}
use Rattle.bitwords.specs.Rows.{in_range, count_below}
use Rattle.bitwords.specs.CountFacts.{count-zero, count-suc, count-same}
use Rattle.fixedbitset.specs.Numbers.{numbers_below, numbers_between, symmetric_difference, contains-numbers_below}

pub same_set : (s t : FinSet nat_cmp) → ((p : ℕ) → set.contains s p ≡ set.contains t p) → s ≡ t
same_set = set.same_set nat_cmp_total set.nat_cmp-IsAntisymmetric

pub contains-numbers_between : (start end p : ℕ) → set.contains (numbers_between start end) p ≡ in_range start end p
unfolding numbers_between
contains-numbers_between start end p =
    grind (
      arith,
      nat_tests,
      contains-numbers_below,
      set.contains-difference nat_cmp_total (numbers_below end) (numbers_below start) p,
    )

pub contains-symmetric_difference : (s t : FinSet nat_cmp) (p : ℕ)
    → set.contains (symmetric_difference s t) p ≡ either (set.contains s p) (set.contains t p)
unfolding symmetric_difference
contains-symmetric_difference s t p =
    simp (set.contains-union nat_cmp_total, set.contains-difference nat_cmp_total) (grind arith)

-- of a set, the members that pass
pub contains-kept : (s : FinSet nat_cmp) (test : ℕ → Bool) (p : ℕ)
    → set.contains (set.retain s test) p ≡ (set.contains s p && test p)
contains-kept s test p = set.contains-retain s test p (λ x e. ap test (sym (set.nat_cmp-IsAntisymmetric p x e)))

-- ---- sizes

-- a set of size 0 has no members
pub none_len : (s : FinSet nat_cmp) → IsTrue (set.len s == 0) ↔ ((p : ℕ) → set.contains s p ≡ false)
none_len s = (
  λ none p. ap (λ t. set.contains t p) (set.empty_of_len s (eqb-true _ _ none)) ∙ set.contains-empty nat_cmp p,
  λ none. eq-eqb _ _ (ap set.len (same_set s set.empty (λ p. none p ∙ sym (set.contains-empty nat_cmp p)))
      ∙ set.len-empty nat_cmp),
)

-- one with a member has not
pub some_len : (s : FinSet nat_cmp) (p : ℕ) → set.contains s p ≡ true → 0 < set.len s
some_len s p one = let none = (none_len s).0 in grind (arith, nat_tests, none)

-- the size of a set of numbers below n is how many numbers below n it has
pub len-below : (n : ℕ) (s : FinSet nat_cmp) → ((p : ℕ) → set.contains s p ≡ true → p < n)
    → set.len s ≡ count_below (set.contains s) n
len-below zero s below =
    eqb-true _ _ ((none_len s).1 (λ p. let low = below p in grind arith)) ∙ sym (count-zero (set.contains s))
len-below (suc n) s below =
    let left : (p : ℕ) → set.contains (set.remove s n) p ≡ (not (p == n) && set.contains s p) =
    λ p. rw (set.contains-remove nat_cmp_total, unsigned_tied) in
    let rest = len-below n (set.remove s n) (λ p one. let low = below p in grind (arith, nat_tests, left p)) in
    let same = count-same (set.contains (set.remove s n)) (set.contains s) n
    (λ p low. grind (arith, nat_tests, left p)) in
    grind (arith, rest, same, set.len-remove nat_cmp_total s n, count-suc (set.contains s) n, some_len s n)

-- a number below n that passes, where some do
passing : (c : ℕ → Bool) (n : ℕ) → count_below c n ≢ 0 → (p : ℕ) × (p < n) × (c p ≡ true)
passing c zero some = absurd (some (count-zero c))
passing c (suc n) some =
    ⊎_elim
    (λ (one : c n ≡ true). (n, omega arith, one))
    (λ (not_one : c n ≡ false). let rest = passing c n (λ e. some (grind (arith, count-suc c n))) in
    (rest.0, omega (arith, rest.1), rest.2))
    (cases_Bool (c n))

-- a set of numbers below n whose size is not 0 has a member
pub member_of : (n : ℕ) (s : FinSet nat_cmp) → ((p : ℕ) → set.contains s p ≡ true → p < n) → ¬ (IsTrue (set.len s == 0))
    → (p : ℕ) × (set.contains s p ≡ true)
member_of n s below some =
    let found = passing (set.contains s) n (λ e. some (eq-eqb _ _ (len-below n s below ∙ e))) in (found.0, found.2)

-- two truths that imply one another
pub same_truth : (a b : Bool) → (a ≡ true → b ≡ true) → (b ≡ true → a ≡ true) → a ≡ b
same_truth a b f g = grind arith
