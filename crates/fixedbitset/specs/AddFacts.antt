-- The length and the members of sets that positions were added to, for those who call a set.
use Rattle.std.proofs.Common.{◌≡◌, ℕ, ◌+◌, ◌<◌, ◌≤◌, max, true, ◌||◌, ◌==◌, List, [], ◌∷◌}
use Rattle.std.proofs.Common.{◌++◌, Contains, eq-eqb, true≢false, refl, sym, ◌∙◌, arith}
use Rattle.std.specs.List.{list_any}
use Rattle.std.specs.Cmp.{nat_cmp_total, unsigned_tied}
use Rattle.std.specs.FinSet as set
use Rattle.std.proofs.lemmas.Bool.{or_right}
use Rattle.std.proofs.lemmas.Bool.Decides.{nat_tests}
use Rattle.std.proofs.lemmas.List.Folds.{list_any-append, list_any-from_Any}
use Rattle.fixedbitset.specs.Bits.{Bits, contains, insert, grow, add, length_for, add_all}
use Rattle.fixedbitset.specs.BitsFacts.{length-pair, contains-pair, contains_below, same_bits}
use Rattle.fixedbitset.specs.BitsFacts.{length-insert, contains-insert, length-grow, contains-grow}

-- ---- one position

pub length-add : (v : Bits) (bit : ℕ) → (add v bit).length ≡ max v.length (bit + 1)
unfolding add
length-add v bit = length-pair _ _

pub contains-add : (v : Bits) (bit p : ℕ) → contains (add v bit) p ≡ (p == bit || contains v p)
unfolding add contains
contains-add v bit p = contains-pair _ _ p
    ∙ rw (set.contains-insert nat_cmp_total, unsigned_tied) (grind (arith, nat_tests, contains_below v p))

-- below the length nothing grows
pub add-insert : (v : Bits) (bit : ℕ) → bit < v.length → add v bit ≡ insert v bit
add-insert v bit inside =
    same_bits _ _ (omega (arith, length-add, length-insert))
    (λ p. grind (arith, nat_tests, contains-add, contains-insert, contains_below v p))

-- growing to the position and setting it
pub insert-grow : (v : Bits) (bit : ℕ) → insert (grow v (bit + 1)) bit ≡ add v bit
insert-grow v bit =
    same_bits _ _ (omega (arith, length-insert, length-grow, length-add))
    (λ p. grind (arith, nat_tests, contains-add, contains-insert, length-grow, contains-grow, contains_below v p))

-- ---- a list of positions

-- each item is below the length for all of them, and the length is not less than it was
item_below : (n : ℕ) (items : List ℕ) (p : ℕ) → list_any (λ item. item == p) items ≡ true → p < length_for n items
unfolding length_for
item_below n [] p one = absurd (true≢false (sym one))
item_below n (item ∷ items) p one = let rest = item_below n items p in grind (arith, nat_tests)

old_below : (n : ℕ) (items : List ℕ) → n ≤ length_for n items
unfolding length_for
old_below n [] = omega arith
old_below n (item ∷ items) = omega (arith, old_below n items)

pub length-add_all : (v : Bits) (items : List ℕ) → (add_all v items).length ≡ length_for v.length items
unfolding add_all
length-add_all v items = length-pair _ _

pub contains-add_all : (v : Bits) (items : List ℕ) (p : ℕ)
    → contains (add_all v items) p ≡ (contains v p || list_any (λ item. item == p) items)
unfolding add_all contains
contains-add_all v items p =
    contains-pair _ _ p
    ∙ rw (set.contains-union nat_cmp_total, set.contains-from_list_nat items p)
    (grind (arith, nat_tests, contains_below v p, old_below v.length items, item_below v.length items p))

-- each item is in the set
pub contains-item : (v : Bits) (items : List ℕ) (p : ℕ) → Contains items p → contains (add_all v items) p ≡ true
contains-item v items p (k, inside, is) =
    contains-add_all v items p
    ∙ or_right (contains v p) _ (list_any-from_Any (λ item. item == p) items (k, p, inside, is, eq-eqb p p refl))

pub length_for-last : (n : ℕ) (items : List ℕ) (item : ℕ)
    → length_for n (items ++ item ∷ []) ≡ max (length_for n items) (item + 1)
unfolding length_for
length_for-last n [] item = omega arith
length_for-last n (x ∷ items) item = omega (arith, length_for-last n items item)

-- no item adds nothing
pub add_all-nil : (v : Bits) → add_all v [] ≡ v
unfolding length_for
add_all-nil v = same_bits (add_all v []) v (length-add_all v []) (λ p. grind (arith, contains-add_all))

-- one more item is one more position added
pub add_all-last : (v : Bits) (items : List ℕ) (item : ℕ) → add_all v (items ++ item ∷ []) ≡ add (add_all v items) item
add_all-last v items item =
    same_bits _ _ (omega (arith, length-add_all, length-add, length_for-last))
    (λ p. grind (arith, nat_tests, contains-add_all, contains-add, list_any-append (λ x. x == p) items (item ∷ [])))

-- what a caller needs of positions that are added
pub ruleset additions = (
  length-add,
  contains-add,
  add-insert,
  insert-grow,
  length-add_all,
  contains-add_all,
  contains-item,
  add_all-nil,
  add_all-last,
)
