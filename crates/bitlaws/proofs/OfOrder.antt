-- Equality, the order and the ends of a set by positions.
use Rattle.std.proofs.Common.{◌≡◌, ◌↔◌, ℕ, ◌≤◌, false, IsTrue}
use Rattle.std.proofs.Common.{Option, Some, None, refl, sym, ap, ◌∙◌, arith}
use Rattle.std.proofs.lemmas.Bool.{true≢false}
use Rattle.fixedbitset.specs.Bits.{Bits, contains, minimum, maximum}
use Rattle.fixedbitset.specs.BitsFacts.{same_bits}
use Rattle.fixedbitset.specs.FirstFacts.{minimum_least, minimum_none}
use Rattle.fixedbitset.specs.NeighbourFacts.{maximum_greatest, maximum_none}
use Rattle.fixedbitset.specs.Order.{compare}
use Rattle.fixedbitset.specs.OrderFacts.{equal_exactly, ordered}
use Rattle.bitlaws.specs.OrderLaws.{EqualTells, CompareTells, MinimumIsLeast, MaximumIsGreatest}

pub equal_tells : EqualTells
equal_tells v w = (
  λ same. let is = (equal_exactly v w).0 same in (ap (λ u. u.length) is, λ p. ap (λ u. contains u p) is),
  λ both. (equal_exactly v w).1 (same_bits v w both.0 both.1),
)

pub compare_tells : CompareTells
compare_tells v w = ordered v w (compare v w) refl

-- ---- the ends

-- a position is what is found in a set exactly if it is in it and all others are behind it
found : (v : Bits) (o : Option ℕ) (Behind : ℕ → ℕ → Type 0) → ((p q : ℕ) → Behind p q → Behind q p → q ≡ p)
    → (o ≡ None → (q : ℕ) → contains v q ≡ false)
    → ((p : ℕ) → o ≡ Some p → IsTrue (contains v p) × ((q : ℕ) → IsTrue (contains v q) → Behind p q))
    → (p : ℕ) → (o ≡ Some p) ↔ (IsTrue (contains v p) × ((q : ℕ) → IsTrue (contains v q) → Behind p q))
found v None Behind one none tells p = (tells p, λ first. absurd (true≢false (sym first.0 ∙ none refl p)))
found v (Some q) Behind one none tells p =
    (tells p, λ first. let other = tells q refl in ap Some (one p q (first.1 q other.0) (other.1 p first.0)))

pub minimum_is_least : MinimumIsLeast
minimum_is_least v = found v (minimum v) (λ p q. p ≤ q) (λ p q a b. omega arith) (minimum_none v) (minimum_least v)

pub maximum_is_greatest : MaximumIsGreatest
maximum_is_greatest v =
    found v (maximum v) (λ p q. q ≤ p) (λ p q a b. omega arith) (maximum_none v) (maximum_greatest v)
