-- The length and the members of each join of two sets, for those who call it, and the joins of a set with itself.
use Rattle.std.proofs.Common.{IsTrue, ◌↔◌, ◌≡◌, ℕ, ◌≤◌, max, min, false, not}
use Rattle.std.proofs.Common.{◌&&◌, ◌||◌, Option, Some, None, refl, ◌∙◌, arith}
use Rattle.std.specs.Cmp.{nat_cmp_total}
use Rattle.std.specs.FinSet as set
use Rattle.std.proofs.lemmas.Bool.Decides.{nat_tests}
use Rattle.bitlanes.specs.Bits.{either}
use Rattle.fixedbitset.specs.Bits.{Bits, contains, empty, minimum}
use Rattle.fixedbitset.specs.BitsFacts.{length-pair, contains-pair, contains_below}
use Rattle.fixedbitset.specs.BitsFacts.{same_bits, length-empty, contains-empty}
use Rattle.fixedbitset.specs.FirstFacts.{minimum_least, minimum_none}
use Rattle.fixedbitset.specs.NumbersFacts as numbers
use Rattle.fixedbitset.specs.NumbersFacts.{none_len}
use Rattle.fixedbitset.specs.TwoSets.{union, symmetric_difference, intersection, difference}
use Rattle.fixedbitset.specs.TwoSets.{bitand, is_subset, is_disjoint, intersection_count}

pub length-union : (v w : Bits) → (union v w).length ≡ max v.length w.length
unfolding union
length-union v w = length-pair _ _

pub contains-union : (v w : Bits) (p : ℕ) → contains (union v w) p ≡ (contains v p || contains w p)
unfolding union contains
contains-union v w p =
    contains-pair _ _ p
    ∙ rw (set.contains-union nat_cmp_total) (grind (arith, nat_tests, contains_below v p, contains_below w p))

pub length-symmetric_difference : (v w : Bits) → (symmetric_difference v w).length ≡ max v.length w.length
unfolding symmetric_difference
length-symmetric_difference v w = length-pair _ _

pub contains-symmetric_difference : (v w : Bits) (p : ℕ)
    → contains (symmetric_difference v w) p ≡ either (contains v p) (contains w p)
unfolding symmetric_difference contains
contains-symmetric_difference v w p =
    contains-pair _ _ p
    ∙ rw (numbers.contains-symmetric_difference) (grind (arith, nat_tests, contains_below v p, contains_below w p))

pub length-intersection : (v w : Bits) → (intersection v w).length ≡ v.length
unfolding intersection
length-intersection v w = length-pair _ _

pub contains-intersection : (v w : Bits) (p : ℕ) → contains (intersection v w) p ≡ (contains v p && contains w p)
unfolding intersection contains
contains-intersection v w p =
    contains-pair _ _ p ∙ rw (set.contains-intersection nat_cmp_total) (grind (arith, nat_tests, contains_below v p))

pub length-difference : (v w : Bits) → (difference v w).length ≡ v.length
unfolding difference
length-difference v w = length-pair _ _

pub contains-difference : (v w : Bits) (p : ℕ) → contains (difference v w) p ≡ (contains v p && not (contains w p))
unfolding difference contains
contains-difference v w p =
    contains-pair _ _ p ∙ rw (set.contains-difference nat_cmp_total) (grind (arith, nat_tests, contains_below v p))

pub length-bitand : (v w : Bits) → (bitand v w).length ≡ min v.length w.length
unfolding bitand
length-bitand v w = length-pair _ _

pub contains-bitand : (v w : Bits) (p : ℕ) → contains (bitand v w) p ≡ (contains v p && contains w p)
unfolding bitand contains
contains-bitand v w p =
    contains-pair _ _ p
    ∙ rw (set.contains-intersection nat_cmp_total) (grind (arith, nat_tests, contains_below v p, contains_below w p))

-- ---- questions

pub is_subset-tells : (v w : Bits) → IsTrue (is_subset v w) ↔ ((p : ℕ) → IsTrue (contains v p) → IsTrue (contains w p))
unfolding is_subset contains
is_subset-tells v w = (
  λ all p one. set.is_subset-contains nat_cmp_total v.positions w.positions all p one,
  λ all. set.contains-is_subset nat_cmp_total _ _ all,
)

pub is_disjoint-tells : (v w : Bits)
    → IsTrue (is_disjoint v w) ↔ ((p : ℕ) → IsTrue (contains v p) → ¬ (IsTrue (contains w p)))
unfolding is_disjoint intersection_count contains
is_disjoint-tells v w =
    let both = set.contains-intersection nat_cmp_total v.positions w.positions in
    let none = none_len (set.intersection v.positions w.positions) in (
      λ apart p one other. let no = none.0 apart p in grind (arith, both p),
      λ apart. none.1 (λ p. let no = apart p in grind (arith, both p)),
    )

-- ---- the least position of one set that another one lacks

-- it is in the one and not in the other, and no such position is less
pub first_lacking_least : (v w : Bits) (p : ℕ) → minimum (difference w v) ≡ Some p
    → IsTrue (contains w p) × (contains v p ≡ false) × ((q : ℕ) → IsTrue (contains w q) → contains v q ≡ false → p ≤ q)
first_lacking_least v w p e =
    let least = minimum_least (difference w v) p e in
    let both = contains-difference w v in
    (grind (arith, both p, least.0), grind (arith, both p, least.0), λ q one clear. least.1 q (grind (arith, both q)))

-- there is none exactly if the one is a subset of the other
pub first_lacking_none : (v w : Bits) → (minimum (difference w v) ≡ None) ↔ IsTrue (is_subset w v)
first_lacking_none v w = (
  λ none. (is_subset-tells w v).1 (λ p one. let no = minimum_none (difference w v) none p in
      grind (arith, contains-difference w v p)),
  λ all. none_found all (minimum (difference w v)) refl,
)
  where
    none_found : IsTrue (is_subset w v) → (found : Option ℕ) → minimum (difference w v) ≡ found → found ≡ None
    none_found all None is = refl
    none_found all (Some p) is =
        let least = first_lacking_least v w p is in let has = (is_subset-tells w v).0 all p in absurd (grind arith)

-- what a caller needs of each join, and of each question
pub ruleset facts = (
  length-union,
  length-symmetric_difference,
  length-intersection,
  length-difference,
  length-bitand,
  contains-union,
  contains-symmetric_difference,
  contains-intersection,
  contains-difference,
  contains-bitand,
  is_subset-tells,
  is_disjoint-tells,
)

-- ---- a set joined with itself

pub union-same : (v : Bits) → union v v ≡ v
union-same v = same_bits _ _ (omega (arith, length-union)) (λ p. grind (arith, contains-union))

pub intersection-same : (v : Bits) → intersection v v ≡ v
intersection-same v =
    same_bits (intersection v v) v (length-intersection v v) (λ p. grind (arith, contains-intersection))

pub difference-same : (v : Bits) → difference v v ≡ empty v.length
difference-same v = same_bits _ _ (omega (arith, length-difference, length-empty))
    (λ p. grind (arith, contains-difference, contains-empty))

pub symmetric_difference-same : (v : Bits) → symmetric_difference v v ≡ empty v.length
symmetric_difference-same v =
    same_bits _ _ (omega (arith, length-symmetric_difference, length-empty))
    (λ p. grind (arith, contains-symmetric_difference, contains-empty))
