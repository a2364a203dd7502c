-- The changes by another set or by a range are joins, and so are the new sets.
use Rattle.std.proofs.Common.{◌≡◌, ℕ, ◌≤◌, max, Bool, not, ◌&&◌, ◌||◌, sym, ap, ◌∙◌, arith}
use Rattle.std.proofs.lemmas.Bool.Decides.{nat_tests}
use Rattle.bitlanes.specs.Bits.{either}
use Rattle.fixedbitset.specs.Bits.{Bits, grow}
use Rattle.fixedbitset.specs.BitsFacts.{contains-grow, length-grow}
use Rattle.fixedbitset.specs.Parts.{resize}
use Rattle.fixedbitset.specs.PartsFacts.{length-resize}
use Rattle.fixedbitset.specs.Ranges.{insert_range, remove_range, toggle_range}
use Rattle.fixedbitset.specs.RangesFacts.{length-insert_range, length-remove_range, length-toggle_range}
use Rattle.fixedbitset.specs.RangesFacts.{contains-insert_range, contains-remove_range, contains-toggle_range}
use Rattle.fixedbitset.specs.Stored.{joined, range_set}
use Rattle.fixedbitset.specs.TwoSets.{union, symmetric_difference, intersection, difference, bitand}
use Rattle.fixedbitset.specs.TwoSetsFacts.{length-union, length-symmetric_difference}
use Rattle.fixedbitset.specs.TwoSetsFacts.{length-intersection, length-difference, length-bitand}
use Rattle.fixedbitset.specs.TwoSetsFacts.{contains-union, contains-symmetric_difference}
use Rattle.fixedbitset.specs.TwoSetsFacts.{contains-intersection, contains-difference, contains-bitand}
use Rattle.fixedbitset.proofs.Words.{joined_is, contains-range_set}

-- ---- changes by another set

pub grown_over : (v : Bits) (m : ℕ) → m ≤ (grow v m).length
grown_over v m = omega (arith, length-grow v m)

pub grown_length : (v : Bits) (m : ℕ) → (grow v m).length ≡ max v.length m
grown_length v m = length-grow v m

pub resized_length : (v : Bits) (n : ℕ) (enabled : Bool) → (resize v n enabled).length ≡ n
resized_length v n enabled = length-resize v n enabled

pub union_grown : (v w : Bits) → joined (λ x y. x || y) (grow v w.length) w ≡ union v w
union_grown v w =
    joined_is _ (grow v w.length) w (union v w) (length-union v w ∙ sym (length-grow v w.length))
    (λ p _. grind (arith, contains-union v w p, contains-grow v w.length p))

-- the same, where the second is what is left of a set
pub left_length : (g k : Bits) → (difference g k).length ≡ g.length
left_length = length-difference

pub difference_grown : (v g k : Bits)
    → joined (λ x y. x || y) (grow v g.length) (difference g k) ≡ union v (difference g k)
difference_grown v g k = ap (λ n. joined (λ x y. x || y) (grow v n) (difference g k)) (sym (length-difference g k))
    ∙ union_grown v (difference g k)

pub symmetric_difference_grown : (v w : Bits) → joined either (grow v w.length) w ≡ symmetric_difference v w
symmetric_difference_grown v w =
    joined_is _ (grow v w.length) w (symmetric_difference v w)
    (length-symmetric_difference v w ∙ sym (length-grow v w.length))
    (λ p _. grind (arith, contains-symmetric_difference v w p, contains-grow v w.length p))

pub intersection_joined : (v w : Bits) → joined (λ x y. x && y) v w ≡ intersection v w
intersection_joined v w =
    joined_is _ v w (intersection v w) (length-intersection v w) (λ p _. contains-intersection v w p)

pub difference_joined : (v w : Bits) → joined (λ x y. x && not y) v w ≡ difference v w
difference_joined v w = joined_is _ v w (difference v w) (length-difference v w) (λ p _. contains-difference v w p)

-- ---- changes by a range

module _ (v : Bits) (start end : ℕ) where
  pub insert_joined : joined (λ x y. x || y) v (range_set start end) ≡ insert_range v start end
  insert_joined = joined_is _ v (range_set start end) (insert_range v start end) (length-insert_range v start end)
      (λ p below. grind (arith, nat_tests, contains-insert_range v start end p, contains-range_set start end p))

  pub remove_joined : joined (λ x y. x && not y) v (range_set start end) ≡ remove_range v start end
  remove_joined = joined_is _ v (range_set start end) (remove_range v start end) (length-remove_range v start end)
      (λ p below. grind (arith, contains-remove_range v start end p, contains-range_set start end p))

  pub toggle_joined : joined either v (range_set start end) ≡ toggle_range v start end
  toggle_joined = joined_is _ v (range_set start end) (toggle_range v start end) (length-toggle_range v start end)
      (λ p below. grind (arith, nat_tests, contains-toggle_range v start end p, contains-range_set start end p))

-- ---- new sets, of which the first stays as long as it is

module _ (v w : Bits) where
  pub bitand_shorter : v.length ≤ w.length → joined (λ x y. x && y) v w ≡ bitand v w
  bitand_shorter shorter =
      joined_is _ v w (bitand v w) (omega (arith, length-bitand v w)) (λ p _. contains-bitand v w p)

  pub bitand_longer : w.length ≤ v.length → joined (λ x y. x && y) w v ≡ bitand v w
  bitand_longer longer =
      joined_is _ w v (bitand v w) (omega (arith, length-bitand v w)) (λ p _. grind (arith, contains-bitand v w p))

  pub union_longer : w.length ≤ v.length → joined (λ x y. x || y) v w ≡ union v w
  union_longer longer = joined_is _ v w (union v w) (omega (arith, length-union v w)) (λ p _. contains-union v w p)

  pub union_shorter : v.length ≤ w.length → joined (λ x y. x || y) w v ≡ union v w
  union_shorter shorter =
      joined_is _ w v (union v w) (omega (arith, length-union v w)) (λ p _. grind (arith, contains-union v w p))

  pub symmetric_difference_longer : w.length ≤ v.length → joined either v w ≡ symmetric_difference v w
  symmetric_difference_longer longer =
      joined_is _ v w (symmetric_difference v w) (omega (arith, length-symmetric_difference v w))
      (λ p _. contains-symmetric_difference v w p)

  pub symmetric_difference_shorter : v.length ≤ w.length → joined either w v ≡ symmetric_difference v w
  symmetric_difference_shorter shorter =
      joined_is _ w v (symmetric_difference v w) (omega (arith, length-symmetric_difference v w))
      (λ p _. grind (arith, contains-symmetric_difference v w p))
