-- The variables that a text names. A text is its bytes.
use Rattle.std.specs.Prelude.{◌≡◌, ℕ, ◌+◌, ◌<◌, ◌≤◌, ◌⊎◌, ◌↔◌, IsTrue, List, All, Contains}
use Rattle.fixedbitset.specs.Bits.{Bits, contains}

-- nothing but spaces and the letters a to z
abbrev pub AreLetters : List ℕ → Type 0
AreLetters text = All (λ b. (b ≡ 32) ⊎ ((97 ≤ b) × (b < 97 + 26))) text

-- variable x is in the set exactly where its letter is in the text
pub record AreVariables (text : List ℕ) (set : Bits) : Type 0 where
  pub sized : set.length ≡ 26
  pub members : (x : ℕ) → IsTrue (contains set x) ↔ ((x < 26) × Contains text (97 + x))
