-- What holds of the ascending list of positions, for all values.
use Rattle.std.specs.Prelude.{◌≡◌, ℕ, ◌↔◌, IsTrue, List, Contains}
use Rattle.std.specs.List.Sorted.{IsStrictlyIncreasing}
use Rattle.fixedbitset.specs.Bits.{Bits, contains, asc}

-- xs is strictly ascending, and its members are exactly the positions of v
pub record IsAscendingListOf (v : Bits) (xs : List ℕ) : Type 0 where
  pub ascends : IsStrictlyIncreasing xs
  pub members : (p : ℕ) → Contains xs p ↔ IsTrue (contains v p)

-- `asc v` is the one strictly ascending list whose members are the positions of v
abbrev pub OneAscendingList : Type 0
OneAscendingList = (v : Bits) → IsAscendingListOf v (asc v) × ((xs : List ℕ) → IsAscendingListOf v xs → xs ≡ asc v)
