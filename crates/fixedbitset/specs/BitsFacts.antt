-- The length and the members of each value of `Bits`, for those who call a set.
use Rattle.std.proofs.Common.{◌≡◌, ℕ, ◌<◌, ◌≤◌, max, Bool, true, false, cond, not, ◌&&◌, ◌||◌}
use Rattle.std.proofs.Common.{◌==◌, nat_lt, nat_cmp, ltb-true, refl, sym, ◌∙◌, arith, IsTrue}
use Rattle.std.specs.FinSet as set
use Rattle.std.specs.FinSet.{FinSet}
use Rattle.std.specs.Cmp.{nat_cmp_total, unsigned_tied}
use Rattle.std.specs.Coded.{Coded-set, coded_bool}
use Rattle.std.proofs.lemmas.Bool.Decides.{nat_tests}
use mathlib.Core.HLevel.{is_prop→PathP}
use Rattle.fixedbitset.specs.Numbers.{numbers_below, contains-numbers_below}
use Rattle.fixedbitset.specs.Bits.{Bits, pair, contains, empty, insert, remove}
use Rattle.fixedbitset.specs.Bits.{set_bit, toggle, copy_bit, grow, complement}

-- a last test that the one before it implies
pub last_holds : (a b c : Bool) → (b ≡ true → c ≡ true) → ((a && b) && c) ≡ (a && b)
last_holds a b c f = grind arith

pub length-pair : (n : ℕ) (s : FinSet nat_cmp) → (pair n s).length ≡ n
unfolding pair
length-pair n s = refl

pub contains-pair : (n : ℕ) (s : FinSet nat_cmp) (p : ℕ) → contains (pair n s) p ≡ (set.contains s p && nat_lt p n)
unfolding pair contains
contains-pair n s p = rw (set.contains-intersection nat_cmp_total, contains-numbers_below) refl

-- each position of the set is below the length
pub contains_below : (v : Bits) (p : ℕ) → contains v p ≡ true → p < v.length
unfolding contains
contains_below v p one = ltb-true p v.length
    (sym (contains-numbers_below v.length p) ∙ set.is_subset-contains nat_cmp_total v.positions _ v.below p one)

pub contains-past : (v : Bits) (p : ℕ) → v.length ≤ p → contains v p ≡ false
contains-past v p past = grind (arith, contains_below v p)

-- two values are equal if their lengths and their positions are
pub same_bits : (v w : Bits) → v.length ≡ w.length → ((p : ℕ) → contains v p ≡ contains w p) → v ≡ w
unfolding contains
same_bits v w same_length same =
    let places : v.positions ≡ w.positions =
    set.same_set nat_cmp_total set.nat_cmp-IsAntisymmetric v.positions w.positions same in
    let inside = is_prop→PathP (λ j. IsTrue (set.is_subset (places j) (numbers_below (same_length j))))
    (λ j. hlevel (Coded-set coded_bool)) v.below w.below in
    λ i. record { length = same_length i; positions = places i; below = inside i }

pub length-empty : (n : ℕ) → (empty n).length ≡ n
unfolding empty
length-empty n = length-pair n _

pub contains-empty : (n p : ℕ) → contains (empty n) p ≡ false
unfolding empty
contains-empty n p = rw (contains-pair, set.contains-empty) refl

pub length-insert : (v : Bits) (bit : ℕ) → (insert v bit).length ≡ v.length
unfolding insert
length-insert v bit = length-pair _ _

pub contains-insert : (v : Bits) (bit p : ℕ)
    → contains (insert v bit) p ≡ ((p == bit || contains v p) && nat_lt p v.length)
unfolding insert contains
contains-insert v bit p = contains-pair v.length _ p ∙ rw (set.contains-insert nat_cmp_total, unsigned_tied) refl

pub length-remove : (v : Bits) (bit : ℕ) → (remove v bit).length ≡ v.length
unfolding remove
length-remove v bit = length-pair _ _

pub contains-remove : (v : Bits) (bit p : ℕ) → contains (remove v bit) p ≡ (not (p == bit) && contains v p)
unfolding remove contains
contains-remove v bit p =
    contains-pair v.length _ p
    ∙ rw (set.contains-remove nat_cmp_total, unsigned_tied) (grind (arith, nat_tests, contains_below v p))

pub length-set_bit : (v : Bits) (bit : ℕ) (b : Bool) → (set_bit v bit b).length ≡ v.length
unfolding set_bit
length-set_bit v bit b = grind (arith, length-insert, length-remove)

pub contains-set_bit : (v : Bits) (bit : ℕ) (b : Bool) (p : ℕ) → bit < v.length
    → contains (set_bit v bit b) p ≡ cond (p == bit) b (contains v p)
unfolding set_bit
contains-set_bit v bit b p h = grind (arith, nat_tests, contains-insert, contains-remove, contains_below v p)

pub length-toggle : (v : Bits) (bit : ℕ) → (toggle v bit).length ≡ v.length
unfolding toggle
length-toggle v bit = length-set_bit v bit _

pub contains-toggle : (v : Bits) (bit p : ℕ) → bit < v.length
    → contains (toggle v bit) p ≡ cond (p == bit) (not (contains v bit)) (contains v p)
unfolding toggle
contains-toggle v bit p h = contains-set_bit v bit _ p h

pub length-copy_bit : (v : Bits) (from to : ℕ) → (copy_bit v from to).length ≡ v.length
unfolding copy_bit
length-copy_bit v from to = length-set_bit v to _

pub contains-copy_bit : (v : Bits) (from to p : ℕ) → to < v.length
    → contains (copy_bit v from to) p ≡ cond (p == to) (contains v from) (contains v p)
unfolding copy_bit
contains-copy_bit v from to p h = contains-set_bit v to _ p h

pub length-grow : (v : Bits) (bits : ℕ) → (grow v bits).length ≡ max v.length bits
unfolding grow
length-grow v bits = length-pair _ _

pub contains-grow : (v : Bits) (bits p : ℕ) → contains (grow v bits) p ≡ contains v p
unfolding grow contains
contains-grow v bits p = contains-pair (max v.length bits) _ p ∙ grind (arith, nat_tests, contains_below v p)

pub length-complement : (v : Bits) → (complement v).length ≡ v.length
unfolding complement
length-complement v = length-pair v.length _

pub contains-complement : (v : Bits) (p : ℕ) → contains (complement v) p ≡ (nat_lt p v.length && not (contains v p))
unfolding complement contains
contains-complement v p =
    contains-pair v.length _ p ∙ rw (set.contains-difference nat_cmp_total, contains-numbers_below) (grind arith)

-- what a caller needs of each change
pub ruleset facts = (
  length-empty,
  length-insert,
  length-remove,
  length-set_bit,
  length-toggle,
  length-copy_bit,
  length-grow,
  contains-empty,
  contains-insert,
  contains-remove,
  contains-set_bit,
  contains-toggle,
  contains-copy_bit,
  contains-grow,
)
