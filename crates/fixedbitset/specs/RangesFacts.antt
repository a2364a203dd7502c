-- The length and the members of each value that a call with a range makes, for those who call a set.
use Rattle.std.proofs.Common.{IsTrue, ◌↔◌, ◌≡◌, ℕ, ◌<◌, ◌≤◌, Bool, cond, not, ◌&&◌, ◌||◌, nat_lt, ap, ◌∙◌, arith}
use Rattle.std.specs.Cmp.{nat_cmp_total}
use Rattle.std.specs.FinSet as set
use Rattle.std.proofs.lemmas.Bool.{false_from_ne_true}
use Rattle.std.proofs.lemmas.Bool.Decides.{nat_tests}
use Rattle.bitlanes.specs.Bits.{either}
use Rattle.fixedbitset.specs.Numbers.{numbers_between, contains-numbers_below}
use Rattle.bitwords.specs.Rows.{in_range}
use Rattle.fixedbitset.specs.Bits.{Bits, contains, empty, is_full}
use Rattle.fixedbitset.specs.BitsFacts.{length-pair, contains-pair, contains_below}
use Rattle.fixedbitset.specs.BitsFacts.{length-empty, contains-empty, same_bits}
use Rattle.fixedbitset.specs.NumbersFacts.{same_set, contains-numbers_between}
use Rattle.fixedbitset.specs.NumbersFacts.{contains-symmetric_difference, member_of, none_len}
use Rattle.fixedbitset.specs.Ranges.{insert_range, remove_range, toggle_range, set_range}
use Rattle.fixedbitset.specs.Ranges.{within, count_ones, contains_all, contains_any}

pub length-insert_range : (v : Bits) (start end : ℕ) → (insert_range v start end).length ≡ v.length
unfolding insert_range
length-insert_range v start end = length-pair _ _

pub contains-insert_range : (v : Bits) (start end p : ℕ)
    → contains (insert_range v start end) p ≡ ((contains v p || in_range start end p) && nat_lt p v.length)
unfolding insert_range contains
contains-insert_range v start end p =
    contains-pair _ _ p ∙ rw (set.contains-union nat_cmp_total, contains-numbers_between)

pub length-remove_range : (v : Bits) (start end : ℕ) → (remove_range v start end).length ≡ v.length
unfolding remove_range
length-remove_range v start end = length-pair _ _

pub contains-remove_range : (v : Bits) (start end p : ℕ)
    → contains (remove_range v start end) p ≡ (contains v p && not (in_range start end p))
unfolding remove_range contains
contains-remove_range v start end p =
    contains-pair _ _ p ∙ rw (set.contains-difference nat_cmp_total, contains-numbers_between)
    (grind (arith, nat_tests, contains_below v p))

pub length-toggle_range : (v : Bits) (start end : ℕ) → (toggle_range v start end).length ≡ v.length
unfolding toggle_range
length-toggle_range v start end = length-pair _ _

pub contains-toggle_range : (v : Bits) (start end p : ℕ)
    → contains (toggle_range v start end) p ≡ (either (contains v p) (in_range start end p) && nat_lt p v.length)
unfolding toggle_range contains
contains-toggle_range v start end p = contains-pair _ _ p ∙ rw (contains-symmetric_difference, contains-numbers_between)

pub length-set_range : (v : Bits) (start end : ℕ) (b : Bool) → (set_range v start end b).length ≡ v.length
unfolding set_range
length-set_range v start end b = grind (arith, length-insert_range, length-remove_range)

pub contains-set_range : (v : Bits) (start end : ℕ) (b : Bool) (p : ℕ) → end ≤ v.length
    → contains (set_range v start end b) p ≡ cond (in_range start end p) b (contains v p)
unfolding set_range
contains-set_range v start end b p within =
    grind (arith, nat_tests, contains-insert_range, contains-remove_range, contains_below v p)

-- without the positions of the whole range nothing is set
pub remove_range-all : (v : Bits) → remove_range v 0 v.length ≡ empty v.length
remove_range-all v =
    same_bits _ _ (omega (arith, length-remove_range, length-empty))
    (λ p. grind (arith, nat_tests, contains-remove_range, contains-empty, contains_below v p))

-- ---- parts

pub length-within : (v : Bits) (start end : ℕ) → (within v start end).length ≡ v.length
unfolding within
length-within v start end = length-pair v.length _

pub contains-within : (v : Bits) (start end p : ℕ)
    → contains (within v start end) p ≡ (contains v p && in_range start end p)
unfolding within contains
contains-within v start end p =
    contains-pair _ _ p ∙ rw (set.contains-intersection nat_cmp_total, contains-numbers_between)
    (grind (arith, nat_tests, contains_below v p))

-- ---- questions

-- each number of the range is a position of the set
pub contains_all-tells : (v : Bits) (start end : ℕ)
    → IsTrue (contains_all v start end) ↔ ((p : ℕ) → start ≤ p → p < end → IsTrue (contains v p))
unfolding contains_all contains
contains_all-tells v start end = (
  λ all p from to.
      set.is_subset-contains nat_cmp_total (numbers_between start end) v.positions all p
      (grind (arith, nat_tests, contains-numbers_between)),
  λ all. set.contains-is_subset nat_cmp_total _ _ (λ p one. let here = all p in
      grind (arith, nat_tests, contains-numbers_between)),
)

-- a set is full if it has each position of the range of all
pub is_full_all : (v : Bits) → contains_all v 0 v.length ≡ is_full v
unfolding contains_all is_full
is_full_all v =
    ap (λ all. set.is_subset all v.positions)
    (same_set _ _ (λ p. grind (arith, nat_tests, contains-numbers_between, contains-numbers_below)))

-- some number of the range is a position of the set
pub contains_any-tells : (v : Bits) (start end : ℕ)
    → IsTrue (contains_any v start end) ↔ ((p : ℕ) × (start ≤ p) × (p < end) × IsTrue (contains v p))
unfolding contains_any count_ones contains
contains_any-tells v start end =
    let common = set.intersection (numbers_between start end) v.positions in
    let member : (p : ℕ) → set.contains common p ≡ (in_range start end p && contains v p) =
    λ p. rw (set.contains-intersection nat_cmp_total, contains-numbers_between) in (
      λ some.
          let found = member_of end common (λ p one. grind (arith, nat_tests, member p)) (λ none. grind arith) in
          let inside : (start ≤ found.0) × (found.0 < end) × IsTrue (contains v found.0) =
          grind (arith, nat_tests, member found.0, found.1) in
          (found.0, inside.0, inside.1, inside.2),
      λ found.
          ap not (false_from_ne_true _ (λ none. let no = (none_len common).0 none found.0 in
          grind (arith, nat_tests, member found.0))),
    )

-- what a caller needs of each change by a range, and of each question
pub ruleset facts = (
  length-insert_range,
  length-remove_range,
  length-toggle_range,
  length-set_range,
  contains-insert_range,
  contains-remove_range,
  contains-toggle_range,
  contains-set_range,
  length-within,
  contains-within,
  contains_all-tells,
  contains_any-tells,
)
