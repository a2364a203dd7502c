-- The set of some numbers.
use Rattle.std.specs.Prelude.{◌≡◌, ℕ, ◌<◌, ◌↔◌, IsTrue, List, All, Contains}
use Rattle.fixedbitset.specs.Bits.{Bits, contains}

-- each of the numbers is below the length
abbrev pub AreBelow : ℕ → List ℕ → Type 0
AreBelow length numbers = All (λ number. number < length) numbers

-- a set of this length, whose members are the numbers
pub record IsSetOf (length : ℕ) (numbers : List ℕ) (set : Bits) : Type 0 where
  pub sized : set.length ≡ length
  pub members : (p : ℕ) → IsTrue (contains set p) ↔ Contains numbers p
