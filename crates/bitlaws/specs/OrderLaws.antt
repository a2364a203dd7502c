-- Equality, the order, and the ends of a set, said by lengths and positions.
use Rattle.std.specs.Prelude.{◌≡◌, ℕ, ◌≤◌, IsTrue, ◌↔◌}
use Rattle.std.specs.declared.option.Option.TheVariants.{Some}
use Rattle.std.specs.Ordering.{MatchOrdering}
use Rattle.fixedbitset.specs.Bits.{Bits, contains, minimum, maximum}
use Rattle.fixedbitset.specs.Order.{IsBelow, equal, compare}

-- `equal` is true exactly if lengths and positions are the same
abbrev pub EqualTells : Type 0
EqualTells = (v w : Bits) → IsTrue (equal v w) ↔ ((v.length ≡ w.length) × ((p : ℕ) → contains v p ≡ contains w p))

-- `compare` returns which of two values comes before the other, or that they are equal
abbrev pub CompareTells : Type 0
CompareTells = (v w : Bits) → MatchOrdering (compare v w) (IsBelow v w) (v ≡ w) (IsBelow w v)

-- `minimum` is a position of the set, and none is less
abbrev pub MinimumIsLeast : Type 0
MinimumIsLeast = (v : Bits) (p : ℕ) → (minimum v ≡ Some p)
    ↔ (IsTrue (contains v p) × ((q : ℕ) → IsTrue (contains v q) → p ≤ q))

-- `maximum` is a position of the set, and none is greater
abbrev pub MaximumIsGreatest : Type 0
MaximumIsGreatest = (v : Bits) (p : ℕ) → (maximum v ≡ Some p)
    ↔ (IsTrue (contains v p) × ((q : ℕ) → IsTrue (contains v q) → q ≤ p))
