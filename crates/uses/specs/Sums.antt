-- The totals of parts of a list of numbers.
use Rattle.std.specs.Prelude.{◌≡◌, ◌⊎◌, ℕ, ◌≤◌, List, [], ◌∷◌}
use Rattle.std.specs.List.{sum, concat}
use Rattle.uses.specs.Texts.{HasRows}

-- the part has some of the numbers, each at most once, in their order
abbrev pub IsPart : List ℕ → List ℕ → Type 0
IsPart part [] = part ≡ []
IsPart part (number ∷ numbers) = IsPart part numbers ⊎ ((rest : List ℕ) × (part ≡ number ∷ rest) × IsPart rest numbers)

-- some part of the numbers has this sum
abbrev pub HasTotal : List ℕ → ℕ → Type 0
HasTotal numbers total = (part : List ℕ) × IsPart part numbers × (sum part ≡ total)

-- the first line of the text is the limit, not above the greatest, and the numbers of the others are the list
pub record HasList (greatest : ℕ) (text : List ℕ) (limit : ℕ) (numbers : List ℕ) : Type 0 where
  pub others : List (List ℕ)
  pub rows : HasRows text ((limit ∷ []) ∷ others)
  pub within : limit ≤ greatest
  pub list : numbers ≡ concat others
