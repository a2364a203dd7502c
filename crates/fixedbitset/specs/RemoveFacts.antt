-- The length and the members of sets from which the positions of a list were removed, for those who call a set.
use Rattle.std.proofs.Common.{◌≡◌, ℕ, ◌&&◌, ◌==◌, not, List, [], ◌∷◌, ◌++◌, ◌∙◌, arith}
use Rattle.std.specs.Cmp.{nat_cmp_total}
use Rattle.std.specs.FinSet as set
use Rattle.std.specs.List.{list_any}
use Rattle.std.proofs.lemmas.Bool.Decides.{nat_tests}
use Rattle.std.proofs.lemmas.List.Folds.{list_any-append}
use Rattle.fixedbitset.specs.Bits.{Bits, contains, remove, remove_all}
use Rattle.fixedbitset.specs.BitsFacts.{length-pair, contains-pair, contains_below, same_bits}
use Rattle.fixedbitset.specs.BitsFacts.{length-remove, contains-remove}

pub length-remove_all : (v : Bits) (items : List ℕ) → (remove_all v items).length ≡ v.length
unfolding remove_all
length-remove_all v items = length-pair _ _

pub contains-remove_all : (v : Bits) (items : List ℕ) (p : ℕ)
    → contains (remove_all v items) p ≡ (contains v p && not (list_any (λ item. item == p) items))
unfolding remove_all contains
contains-remove_all v items p =
    contains-pair _ _ p
    ∙ rw (set.contains-difference nat_cmp_total, set.contains-from_list_nat items p)
    (grind (arith, nat_tests, contains_below v p))

-- no item removes nothing
pub remove_all-nil : (v : Bits) → remove_all v [] ≡ v
remove_all-nil v = same_bits (remove_all v []) v (length-remove_all v []) (λ p. grind (arith, contains-remove_all))

-- one more item is one more position removed
pub remove_all-last : (v : Bits) (items : List ℕ) (item : ℕ)
    → remove_all v (items ++ item ∷ []) ≡ remove (remove_all v items) item
remove_all-last v items item =
    let any = λ (p : ℕ). list_any-append (λ x. x == p) items (item ∷ []) in
    same_bits _ _ (omega (arith, length-remove_all, length-remove))
    (λ p. grind (arith, nat_tests, contains-remove_all, contains-remove, any p))

-- what a caller needs of positions that are removed
pub ruleset removals = (length-remove_all, contains-remove_all, remove_all-nil, remove_all-last)
