-- Which line an error has.
use Rattle.std.specs.Prelude.{◌≡◌, ℕ, ◌+◌, ◌==◌, List, ◌∷◌, ◌++◌, All, length, take, count_by, ⊤}
use Rattle.uses.specs.declared.text.Fault.{Fault}
use Rattle.uses.specs.declared.text.Fault.TheVariants.{Memory, Input, Line}
use Rattle.uses.specs.declared.text.Row.{Row}

-- x is the first of these that P does not hold of, and those of `before` stand before it
pub record IsFirstOther {X : Type 0} (P : X → Type 0) (xs before : List X) (x : X) : Type 0 where
  pub after : List X
  pub parts : xs ≡ before ++ x ∷ after
  pub each : All P before
  pub other : ¬ (P x)

-- the error has the line of this number
abbrev pub HasLine : Fault → ℕ → Type 0
HasLine Memory number = ⊥
HasLine Input number = ⊥
HasLine (Line line _) number = line ≡ number

-- the number of the line that has the byte at this place
abbrev pub line_of : ℕ → List ℕ → ℕ
line_of place bytes = count_by (λ b. b == 10) (take place bytes) + 1

-- an allocation failed, or the error has the number of the first line that P does not hold of
abbrev pub IsFaultOfLine : (List ℕ → Type 0) → List (List ℕ) → Fault → Type 0
IsFaultOfLine P lines Memory = ⊤
IsFaultOfLine P lines Input = ⊥
IsFaultOfLine P lines (Line number _) =
    (before : List (List ℕ)) × (line : List ℕ) × IsFirstOther P lines before line × (number ≡ length before + 1)

-- the numbers of each row are as P says
abbrev pub AreAll : (List ℕ → Type 0) → List Row → Type 0
AreAll P rows = All (λ (row : Row). P row.numbers.items) rows

-- an allocation failed, or the error has the number of the first row that is not as P says
abbrev pub IsFaultOfRow : (List ℕ → Type 0) → List Row → Fault → Type 0
IsFaultOfRow P rows Memory = ⊤
IsFaultOfRow P rows Input = ⊥
IsFaultOfRow P rows (Line number _) =
    (before : List Row) × (row : Row)
    × IsFirstOther (λ (r : Row). P r.numbers.items) rows before row × (number ≡ row.line)
