-- The positions that each change and each join leaves, as statements, for those who call a set.
use Rattle.std.proofs.Common.{IsTrue, ◌↔◌, ◌≡◌, ◌≢◌, ℕ, ◌<◌, ◌≤◌, false, ◌==◌, Contains, ◌⊎◌, sym, ap, ◌∙◌, arith}
use Rattle.std.specs.Cmp.{nat_cmp_total}
use Rattle.std.specs.FinSet as set
use Rattle.std.proofs.lemmas.Bool.Decides.{nat_tests}
use Rattle.fixedbitset.specs.NumbersFacts.{same_truth, member_of, none_len}
use Rattle.fixedbitset.specs.Bits.{Bits, contains, empty, insert, remove, asc, is_clear, is_full}
use Rattle.fixedbitset.specs.BitsFacts.{contains_below, same_bits, contains-empty, contains-insert, contains-remove}
use Rattle.fixedbitset.specs.Numbers.{numbers_below, contains-numbers_below}
use Rattle.fixedbitset.specs.Ranges.{insert_range, remove_range, toggle_range}
use Rattle.fixedbitset.specs.RangesFacts.{contains-insert_range, contains-remove_range, contains-toggle_range}
use Rattle.fixedbitset.specs.TwoSets.{union, intersection, difference, bitand}
use Rattle.fixedbitset.specs.TwoSets.{is_subset, is_disjoint, intersection_count}
use Rattle.fixedbitset.specs.TwoSetsFacts.{contains-union, contains-intersection}
use Rattle.fixedbitset.specs.TwoSetsFacts.{contains-difference, contains-bitand, is_subset-tells}
use Rattle.fixedbitset.specs.WalkFacts.{contains_item, item_of}

-- ---- single positions

pub in_empty : (n p : ℕ) → ¬ (IsTrue (contains (empty n) p))
in_empty n p one = grind (arith, contains-empty)

-- where the position may be set, it and those before are
pub in_insert : (v : Bits) (bit p : ℕ) → bit < v.length
    → IsTrue (contains (insert v bit) p) ↔ ((p ≡ bit) ⊎ IsTrue (contains v p))
in_insert v bit p below = grind (arith, nat_tests, contains-insert, contains_below)

pub in_remove : (v : Bits) (bit p : ℕ) → IsTrue (contains (remove v bit) p) ↔ ((p ≢ bit) × IsTrue (contains v p))
in_remove v bit p = grind (arith, nat_tests, contains-remove)

-- ---- ranges

-- where the range ends with the set or before, its positions are set, and those that were
pub in_insert_range : (v : Bits) (start end p : ℕ) → end ≤ v.length
    → IsTrue (contains (insert_range v start end) p) ↔ (((start ≤ p) × (p < end)) ⊎ IsTrue (contains v p))
in_insert_range v start end p fits = grind (arith, nat_tests, contains-insert_range, contains_below)

-- those that were, but for the range
pub in_remove_range : (v : Bits) (start end p : ℕ)
    → IsTrue (contains (remove_range v start end) p) ↔ (IsTrue (contains v p) × (¬ ((start ≤ p) × (p < end))))
in_remove_range v start end p = grind (arith, nat_tests, contains-remove_range)

-- where the range ends with the set or before: those that were, but for the range, and those of the range that were not
pub in_toggle_range : (v : Bits) (start end p : ℕ) → end ≤ v.length
    → IsTrue (contains (toggle_range v start end) p)
    ↔ ((IsTrue (contains v p) × (¬ ((start ≤ p) × (p < end))))
    ⊎ (((start ≤ p) × (p < end)) × (¬ (IsTrue (contains v p)))))
in_toggle_range v start end p fits = grind (arith, nat_tests, contains-toggle_range, contains_below)

-- ---- two sets

pub in_union : (v w : Bits) (p : ℕ) → IsTrue (contains (union v w) p) ↔ (IsTrue (contains v p) ⊎ IsTrue (contains w p))
in_union v w p = grind (arith, contains-union)

pub in_intersection : (v w : Bits) (p : ℕ) → IsTrue (contains (intersection v w) p)
    ↔ (IsTrue (contains v p) × IsTrue (contains w p))
in_intersection v w p = grind (arith, contains-intersection)

pub in_bitand : (v w : Bits) (p : ℕ)
    → IsTrue (contains (bitand v w) p) ↔ (IsTrue (contains v p) × IsTrue (contains w p))
in_bitand v w p = grind (arith, contains-bitand)

pub in_difference : (v w : Bits) (p : ℕ)
    → IsTrue (contains (difference v w) p) ↔ (IsTrue (contains v p) × (¬ (IsTrue (contains w p))))
in_difference v w p = grind (arith, contains-difference)

-- sets of one length are equal if each is a subset of the other
pub same_subsets : (v w : Bits) → v.length ≡ w.length → IsTrue (is_subset v w) → IsTrue (is_subset w v) → v ≡ w
same_subsets v w long to from =
    same_bits v w long (λ p. same_truth _ _ ((is_subset-tells v w).0 to p) ((is_subset-tells w v).0 from p))

-- sets that are not disjoint have a position in common
pub common : (v w : Bits) → is_disjoint v w ≡ false → (p : ℕ) × IsTrue (contains v p) × IsTrue (contains w p)
unfolding is_disjoint intersection_count contains
common v w meet =
    let both = set.contains-intersection nat_cmp_total v.positions w.positions in
    let some : ¬ (IsTrue (set.len (set.intersection v.positions w.positions) == 0)) = grind arith in
    let found = member_of v.length _ (λ p one. contains_below v p (grind (arith, both p))) some in
    (found.0, grind (arith, both found.0, found.1), grind (arith, both found.0, found.1))

-- ---- lists and whole sets

-- the ascending list has the positions that are set, and no other
pub in_asc : (v : Bits) (p : ℕ) → Contains (asc v) p ↔ IsTrue (contains v p)
in_asc v p = (λ member. ap (contains v) (sym member.2) ∙ contains_item v member.0 p member.1, item_of v p)

-- no position is set
pub is_clear-tells : (v : Bits) → IsTrue (is_clear v) ↔ ((p : ℕ) → contains v p ≡ false)
unfolding is_clear contains
is_clear-tells v = none_len v.positions

-- each position below the length is set
pub is_full-tells : (v : Bits) → IsTrue (is_full v) ↔ ((p : ℕ) → p < v.length → IsTrue (contains v p))
unfolding is_full contains
is_full-tells v = (
  λ all p below. set.is_subset-contains nat_cmp_total (numbers_below v.length) v.positions all p
      (grind (arith, nat_tests, contains-numbers_below)),
  λ all. set.contains-is_subset nat_cmp_total _ _ (λ p one. let low = all p in
      grind (arith, nat_tests, contains-numbers_below)),
)

-- what a caller needs of the positions that a change or a join leaves; those of ranges are named one by one
pub ruleset members = (
  in_empty,
  in_insert,
  in_remove,
  in_union,
  in_intersection,
  in_bitand,
  in_difference,
  same_subsets,
  common,
  in_asc,
  is_clear-tells,
  is_full-tells,
)
