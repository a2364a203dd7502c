-- The counts of two sets against one another, and sets that are within one another.
use Rattle.std.proofs.Common.{◌≤◌, ◌≡◌, ℕ, ◌+◌, ◌<◌, max, true, sym, ap, ◌∙◌, arith}
use Rattle.std.specs.Ordering.{nat_cmp}
use Rattle.std.specs.Cmp.{nat_cmp_total}
use Rattle.std.specs.FinSet as set
use Rattle.std.specs.FinSet.{FinSet}
use Rattle.fixedbitset.specs.Bits.{Bits, contains}
use Rattle.fixedbitset.specs.BitsFacts.{contains_below}
use Rattle.fixedbitset.specs.Numbers.{symmetric_difference}
use Rattle.fixedbitset.specs.NumbersFacts.{contains-symmetric_difference, same_set, same_truth}
use Rattle.fixedbitset.specs.Ranges.{count_ones}
use Rattle.fixedbitset.specs.SizeFacts.{len-split, count_ones-all}
use Rattle.fixedbitset.specs.TwoSets.{union_count, intersection_count, difference_count, symmetric_difference_count}
use Rattle.fixedbitset.specs.TwoSetsFacts.{is_subset-tells}
use Rattle.bitlaws.specs.TwoSetLaws.{SubsetBothWays}

-- the parts of a union and of a symmetric difference
module _ (n : ℕ) (s t : FinSet nat_cmp) (below_s : (p : ℕ) → set.contains s p ≡ true → p < n)
    (below_t : (p : ℕ) → set.contains t p ≡ true → p < n) where
  union-inside : set.intersection (set.union s t) t ≡ t
  union-inside =
      same_set _ _ (λ p. simp (set.contains-intersection nat_cmp_total, set.contains-union nat_cmp_total) (grind arith))

  union-outside : set.difference (set.union s t) t ≡ set.difference s t
  union-outside =
      same_set _ _ (λ p. simp (set.contains-difference nat_cmp_total, set.contains-union nat_cmp_total) (grind arith))

  pub union-sizes : set.len (set.union s t) + set.len (set.intersection s t) ≡ set.len s + set.len t
  union-sizes =
      let whole : set.len (set.union s t) ≡ set.len t + set.len (set.difference s t) =
      len-split n (set.union s t) t
      (λ p one. grind (arith, below_s p, below_t p, set.contains-union nat_cmp_total s t p))
      ∙ (λ i. set.len (union-inside i) + set.len (union-outside i)) in
      omega (arith, whole, len-split n s t below_s)

  symmetric_difference-inside : set.intersection (symmetric_difference s t) s ≡ set.difference s t
  symmetric_difference-inside =
      same_set _ _ (λ p.
      simp (
        set.contains-intersection nat_cmp_total,
        set.contains-difference nat_cmp_total,
        contains-symmetric_difference,
      ) (grind arith))

  symmetric_difference-outside : set.difference (symmetric_difference s t) s ≡ set.difference t s
  symmetric_difference-outside =
      same_set _ _ (λ p. simp (set.contains-difference nat_cmp_total, contains-symmetric_difference) (grind arith))

  pub symmetric_difference-sizes : set.len (symmetric_difference s t) ≡ set.len (set.difference s t)
      + set.len (set.difference t s)
  symmetric_difference-sizes =
      len-split n (symmetric_difference s t) s
      (λ p one. grind (arith, below_s p, below_t p, contains-symmetric_difference s t p))
      ∙ (λ i. set.len (symmetric_difference-inside i) + set.len (symmetric_difference-outside i))

-- the positions of a value are below its length, and below every greater number
below : (v : Bits) (n : ℕ) → v.length ≤ n → (p : ℕ) → set.contains v.positions p ≡ true → p < n
unfolding contains
below v n long p one = omega (arith, contains_below v p one)

pub counts-sum : (v w : Bits)
    → union_count v w + intersection_count v w ≡ count_ones v 0 v.length + count_ones w 0 w.length
unfolding union_count intersection_count
counts-sum v w =
    omega (
      arith,
      union-sizes (max v.length w.length) v.positions w.positions (below v _ (omega arith)) (below w _ (omega arith)),
      count_ones-all v,
      count_ones-all w,
    )

pub symmetric_difference_count-sum : (v w : Bits)
    → symmetric_difference_count v w ≡ difference_count v w + difference_count w v
unfolding symmetric_difference_count difference_count
symmetric_difference_count-sum v w =
    symmetric_difference-sizes (max v.length w.length) v.positions w.positions (below v _ (omega arith))
    (below w _ (omega arith))

pub subsets : SubsetBothWays
unfolding contains
subsets v w = (
  λ within.
      same_set v.positions w.positions
      (λ p. same_truth _ _ ((is_subset-tells v w).0 within.0 p) ((is_subset-tells w v).0 within.1 p)),
  λ same. (
    (is_subset-tells v w).1 (λ p one. sym (ap (λ s. set.contains s p) same) ∙ one),
    (is_subset-tells w v).1 (λ p one. ap (λ s. set.contains s p) same ∙ one),
  ),
)
