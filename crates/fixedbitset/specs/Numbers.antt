-- Finite sets of numbers.
use Rattle.std.specs.Prelude.{◌≡◌, ℕ, zero, suc, nat_lt, IsTrue}
use Rattle.std.specs.Ordering.{nat_cmp}
use Rattle.std.specs.FinSet as set
use Rattle.std.specs.FinSet.{FinSet}
use Rattle.std.specs.Cmp.{nat_cmp_total, unsigned_tied}
use Rattle.std.proofs.Common.{sym, ◌∙◌, arith}
use Rattle.std.proofs.lemmas.Bool.{and_parts}
use Rattle.std.proofs.lemmas.Bool.Decides.{nat_tests}

-- the numbers below n
unfoldable pub numbers_below : ℕ → FinSet nat_cmp
numbers_below zero = set.empty
numbers_below (suc n) = set.insert (numbers_below n) n

-- the numbers from start up to and without end
unfoldable pub numbers_between : ℕ → ℕ → FinSet nat_cmp
numbers_between start end = set.difference (numbers_below end) (numbers_below start)

-- what is in exactly one of two sets
unfoldable pub symmetric_difference : FinSet nat_cmp → FinSet nat_cmp → FinSet nat_cmp
symmetric_difference s t = set.union (set.difference s t) (set.difference t s)

-- ---- what the definition of a value stands on

pub contains-numbers_below : (n q : ℕ) → set.contains (numbers_below n) q ≡ nat_lt q n
unfolding numbers_below
contains-numbers_below zero q = set.contains-empty nat_cmp q ∙ grind (arith, nat_tests)
contains-numbers_below (suc n) q = set.contains-insert nat_cmp_total (numbers_below n) n q
    ∙ rw (unsigned_tied, contains-numbers_below n q) (grind (arith, nat_tests))

-- what is kept of a set below n is below n
pub kept_below : (n : ℕ) (s : FinSet nat_cmp)
    → IsTrue (set.is_subset (set.intersection s (numbers_below n)) (numbers_below n))
kept_below n s =
    set.contains-is_subset nat_cmp_total _ _
    (λ q one. (and_parts _ _ (sym (set.contains-intersection nat_cmp_total s (numbers_below n) q) ∙ one)).1)
