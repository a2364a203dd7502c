-- What a use reads of its text and what it prints. Texts and lines are their bytes.
use Rattle.std.specs.Prelude.{◌≡◌, ℕ, ◌<◌, ◌↔◌, List, [], ◌∷◌, ◌++◌, All, Contains}
use Rattle.std.specs.Prelude.{map, length, slice_index, decimal, ⊤}
use Rattle.std.specs.List.{AllPairs, flat_map, join_by}
use Rattle.std.specs.Str.Lines.{lines}
use Rattle.uses.specs.declared.text.Fault.{Fault}
use Rattle.uses.specs.declared.text.Fault.TheVariants.{Memory, Input, Line}
use Rattle.uses.specs.declared.text.Row.{Row}
use Rattle.uses.specs.Faults.{HasLine}
use Rattle.uses.specs.Rows.{IsRow, row_of}

-- each line of the text is a row of numbers, and these are the rows
pub record HasRows (text : List ℕ) (rows : List (List ℕ)) : Type 0 where
  pub each : All IsRow (lines text)
  pub numbers : map row_of (lines text) ≡ rows

-- the numbers are one, as P says
abbrev pub IsOne : (ℕ → Type 0) → List ℕ → Type 0
IsOne P numbers = (length numbers ≡ 1) × P (slice_index numbers 0)

-- the first row is this number alone, and these are the others
pub record HasFirst (rows : List Row) (number : ℕ) (others : List Row) : Type 0 where
  pub first : Row
  pub parts : rows ≡ first ∷ others
  pub alone : first.numbers.items ≡ number ∷ []

-- the error has the line of the first row, whose numbers are not as P says, or line 1 where there is no row
abbrev pub IsFaultOfFirst : (List ℕ → Type 0) → List Row → Fault → Type 0
IsFaultOfFirst P [] fault = HasLine fault 1
IsFaultOfFirst P (first ∷ others) fault = (¬ (P first.numbers.items)) × HasLine fault first.line

-- an allocation failed, or the text is not as P says
abbrev pub IsRefusal : Type 0 → Fault → Type 0
IsRefusal P Memory = ⊤
IsRefusal P Input = ⊥
IsRefusal P (Line number wrong) = ¬ P

-- the numbers in decimal, one a line
abbrev pub one_a_line : List ℕ → List ℕ
one_a_line numbers = flat_map (λ number. decimal number ++ 10 ∷ []) numbers

-- the numbers in decimal in one line, a space between two of them
abbrev pub in_one_line : List ℕ → List ℕ
in_one_line numbers = join_by decimal (32 ∷ []) numbers ++ 10 ∷ []

-- the text is that of exactly the numbers that P holds of, in ascending order
pub record Prints (text_of : List ℕ → List ℕ) (P : ℕ → Type 0) (text : List ℕ) : Type 0 where
  pub numbers : List ℕ
  pub ascending : AllPairs (λ x y. x < y) numbers
  pub members : (n : ℕ) → Contains numbers n ↔ P n
  pub is_text : text ≡ text_of numbers
