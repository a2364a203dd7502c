-- What one call of an iterator tells: the first item is the least, and an iterator with no item has none to give.
use Rattle.std.proofs.Common.{◌≡◌, ℕ, ◌<◌, ◌≤◌, IsTrue, false, List, [], ◌∷◌, Some, None, slice_get, refl, arith}
use Rattle.std.proofs.lemmas.Bool.{false_from_ne_true}
use Rattle.std.proofs.lemmas.Bool.Decides.{nat_tests}
use Rattle.fixedbitset.specs.Bits.{Bits, contains, asc, complement, minimum}
use Rattle.fixedbitset.specs.BitsFacts.{contains-complement}
use Rattle.fixedbitset.specs.WalkFacts.{item_of, step_of}

-- ---- the first item of a list

pub begins : (xs : List ℕ) (p : ℕ) → slice_get xs 0 ≡ Some p → (others : List ℕ) × (xs ≡ p ∷ others)
begins [] p e = cc
begins (x ∷ xs) p e = (xs, cc)

pub is_none : (xs : List ℕ) → slice_get xs 0 ≡ None → xs ≡ []
is_none [] e = refl
is_none (x ∷ xs) e = cc

-- ---- over the positions that are set

-- the first item is set, and no position that is set is less
pub first_item : (v : Bits) (p : ℕ) (others : List ℕ) → asc v ≡ p ∷ others
    → IsTrue (contains v p) × ((q : ℕ) → IsTrue (contains v q) → p ≤ q)
unfolding asc
first_item v p others same =
    let next = (step_of (contains v) 0 v.length p others same).0 in
    let none = next.none in
    (next.passes, λ q one. let before = none q in grind arith)

-- where there is no item, no position is set
pub no_item : (v : Bits) → asc v ≡ [] → (q : ℕ) → contains v q ≡ false
no_item v same q = false_from_ne_true _ (λ one. let h = rw same at (item_of v q one).1 in omega arith)

-- ---- the least position

-- it is set, and no position that is set is less
pub minimum_least : (v : Bits) (p : ℕ) → minimum v ≡ Some p
    → IsTrue (contains v p) × ((q : ℕ) → IsTrue (contains v q) → p ≤ q)
unfolding minimum
minimum_least v p e = let found = begins (asc v) p e in first_item v p found.0 found.1

-- where there is none, no position is set
pub minimum_none : (v : Bits) → minimum v ≡ None → (q : ℕ) → contains v q ≡ false
unfolding minimum
minimum_none v e = no_item v (is_none (asc v) e)

-- ---- over the zeros

-- the first item is below the length and not set, and no such position is less
pub first_zero : (v : Bits) (p : ℕ) (others : List ℕ) → asc (complement v) ≡ p ∷ others
    → (p < v.length) × (contains v p ≡ false) × ((q : ℕ) → q < v.length → contains v q ≡ false → p ≤ q)
first_zero v p others same =
    let first = first_item (complement v) p others same in
    let zero = contains-complement v in (
      grind (arith, nat_tests, zero p, first.0),
      grind (arith, zero p, first.0),
      λ q below clear. first.1 q (grind (arith, nat_tests, zero q)),
    )

-- where there is no item, each position below the length is set
pub no_zero : (v : Bits) → asc (complement v) ≡ [] → (q : ℕ) → q < v.length → IsTrue (contains v q)
no_zero v same q below = grind (arith, nat_tests, contains-complement v q, no_item (complement v) same q)
