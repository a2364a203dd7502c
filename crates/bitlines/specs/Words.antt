-- The words of a line, and numbers.
use Rattle.std.specs.Prelude.{ℕ, ◌^◌, ◌&&◌, List, [], ◌∷◌, length, Option, Some}
use Rattle.std.specs.Prelude.{None, nat_lt, ◌==◌, if◌then◌else◌, option_and_then}
use Rattle.std.specs.List.{slice_split}
use Rattle.std.specs.Str.{all_ascii_digits}
use Rattle.std.specs.Str.Parse.{digits_value}

-- a text is cut at each space
abbrev pub words : List ℕ → List (List ℕ)
words text = slice_split (λ b. b == 32) text

-- one or more decimal digits, of a value below 2 ^ 64
unfoldable pub number_of : List ℕ → Option ℕ
number_of word = if nat_lt 0 (length word) && (all_ascii_digits word && nat_lt (digits_value 10 word) (2 ^ 64))
    then Some (digits_value 10 word) else None

-- ---- readers of words

-- what is read by the second reader, once the first has read
infixl 10 ◌>>=◌
abbrev pub ◌>>=◌ : {A B : Type 0} → Option A → (A → Option B) → Option B
o >>= f = option_and_then f o

-- the first word as a number, and the words after it
unfoldable pub number_at : List (List ℕ) → Option (ℕ × List (List ℕ))
number_at [] = None
number_at (w ∷ ws) = number_of w >>= λ n. Some (n, ws)

-- no word is left
unfoldable pub at_end : List (List ℕ) → Option (Unit {0})
at_end [] = Some tt
at_end (w ∷ ws) = None
