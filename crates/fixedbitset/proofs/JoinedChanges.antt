-- Whether a join changes a set: what a count of the changed positions says.
use Rattle.std.proofs.Common.{◌≡◌, ℕ, Bool, true, false, not, ◌&&◌, ◌||◌, ◌==◌, refl, sym, ap, ◌∙◌, arith}
use Rattle.std.specs.Cmp.{nat_cmp_total}
use Rattle.std.specs.FinSet as set
use Rattle.bitlanes.specs.Bits.{either}
use Rattle.bitlanes.specs.Changes.{changes}
use Rattle.fixedbitset.specs.Bits.{Bits, contains, grow, is_clear}
use Rattle.fixedbitset.specs.BitsFacts.{contains-grow}
use Rattle.fixedbitset.specs.Stored.{count_joined}
use Rattle.fixedbitset.specs.TwoSets.{is_subset, is_disjoint, intersection_count}
use Rattle.fixedbitset.proofs.JoinedCounts.{count_joined-size, none_left}

-- a union changes a set exactly if the other is no subset of it, whether or not it has grown before
union_gains : (u v w : Bits) → ((p : ℕ) → contains u p ≡ contains v p)
    → not (count_joined (changes (λ x y. x || y)) u w == 0) ≡ not (is_subset w v)
unfolding is_subset contains
union_gains u v w same =
    ap (λ k. not (k == 0))
    (count_joined-size (changes (λ x y. x || y)) refl u w (set.difference w.positions v.positions)
    (λ p. grind (arith, same p, set.contains-difference nat_cmp_total w.positions v.positions p)))
    ∙ ap not (none_left w.positions v.positions)

pub union_grown_changes : (v w : Bits) (n : ℕ)
    → not (count_joined (changes (λ x y. x || y)) (grow v n) w == 0) ≡ not (is_subset w v)
union_grown_changes v w n = union_gains (grow v n) v w (contains-grow v n)

pub union_changes : (v w : Bits) → not (count_joined (changes (λ x y. x || y)) v w == 0) ≡ not (is_subset w v)
union_changes v w = union_gains v v w (λ p. refl)

pub intersection_changes : (v w : Bits) → not (count_joined (changes (λ x y. x && y)) v w == 0) ≡ not (is_subset v w)
unfolding is_subset contains
intersection_changes v w =
    ap (λ k. not (k == 0))
    (count_joined-size (changes (λ x y. x && y)) refl v w (set.difference v.positions w.positions)
    (λ p. grind (arith, set.contains-difference nat_cmp_total v.positions w.positions p)))
    ∙ ap not (none_left v.positions w.positions)

pub difference_changes : (v w : Bits)
    → not (count_joined (changes (λ x y. x && not y)) v w == 0) ≡ not (is_disjoint v w)
unfolding is_disjoint intersection_count contains
difference_changes v w =
    ap (λ k. not (k == 0))
    (count_joined-size (changes (λ x y. x && not y)) refl v w (set.intersection v.positions w.positions)
    (λ p. grind (arith, set.contains-intersection nat_cmp_total v.positions w.positions p)))

-- what exactly one has differs from a set exactly if the other has a position, whether or not the set has grown before
pub symmetric_difference_changes : (v w : Bits) → not (count_joined (changes either) v w == 0) ≡ not (is_clear w)
unfolding is_clear contains
symmetric_difference_changes v w =
    ap (λ k. not (k == 0))
    (count_joined-size (changes either) refl v w w.positions (λ p. sym (twice (contains v p) (contains w p))))
  where
    twice : (x y : Bool) → either x (either x y) ≡ y
    twice true true = refl
    twice true false = refl
    twice false y = refl
