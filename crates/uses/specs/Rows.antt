-- Rows of numbers in a text. A line and a word are their bytes.
use Rattle.std.specs.Prelude.{◌≡◌, ℕ, ◌+◌, ◌<◌, ◌^◌, ◌==◌, not, List, All, Some, length, map, slice_get}
use Rattle.std.specs.List.{filter, slice_split}
use Rattle.std.specs.Str.Parse.{IsNumeral, digits_value}
use Rattle.uses.specs.declared.text.Row.{Row}

-- one or more decimal digits and nothing else, of a value below 2 ^ 64
abbrev pub IsNumber : List ℕ → Type 0
IsNumber word = IsNumeral 10 word × (digits_value 10 word < 2 ^ 64)

-- the value of these digits
abbrev pub value : List ℕ → ℕ
value word = digits_value 10 word

-- the words of a line are what stands between its spaces
abbrev pub words : List ℕ → List (List ℕ)
words line = filter (λ word. not (length word == 0)) (slice_split (λ b. b == 32) line)

-- each word of the line is a number
abbrev pub IsRow : List ℕ → Type 0
IsRow line = All IsNumber (words line)

-- the numbers of a line
abbrev pub row_of : List ℕ → List ℕ
row_of line = map value (words line)

-- a row for each line, with its numbers; the lines count from 1 on
pub record AreRowsOf (lines : List (List ℕ)) (rows : List Row) : Type 0 where
  pub each : All IsRow lines
  pub numbers : map (λ row. row.numbers.items) rows ≡ map row_of lines
  pub counted : (k : ℕ) (row : Row) → slice_get rows k ≡ Some row → row.line ≡ k + 1
