-- The arguments of commands.
use Rattle.std.specs.Prelude.{ℕ, ◌+◌, Bool, true, false, ◌==◌, List, [], ◌∷◌, length, take, drop}
use Rattle.std.specs.Prelude.{position, slice_index_or, Option, Some, None, if◌then◌else◌, codes}
use Rattle.std.specs.List.{join_with_byte}
use Rattle.std.specs.Str.{bytes_eq, is_utf8}
use Rattle.serde_json.specs.Data.{Data}
use Rattle.serde_json.specs.Read.{read}
use Rattle.bitlanes.specs.Range.{behind}
use Rattle.bitlines.specs.Words.{◌>>=◌, number_of, number_at, at_end}
use Rattle.bitcommands.specs.declared.commands.arguments.End.{End}
use Rattle.bitcommands.specs.declared.commands.arguments.End.TheVariants.{Front, Back}
use Rattle.bitcommands.specs.Actions.{Range}

-- ---- one argument

-- the word is this text
abbrev pub is : List ℕ → List ℕ → Bool
is word text = bytes_eq word text

-- `true` or `false`
unfoldable pub flag_of : List ℕ → Option Bool
flag_of w = if is w (codes "true") then Some true else (if is w (codes "false") then Some false else None)

-- the first word as a flag, and the words after it
unfoldable pub flag_at : List (List ℕ) → Option (Bool × List (List ℕ))
flag_at [] = None
flag_at (w ∷ ws) = flag_of w >>= λ e. Some (e, ws)

-- nothing, or a number
unfoldable pub bound_of : List ℕ → Option (Option ℕ)
bound_of w = if length w == 0 then Some None else (number_of w >>= λ n. Some (Some n))

-- a bound, or `=` and the last position of the range, which then ends behind it
unfoldable pub end_bound_of : List ℕ → Option (Option ℕ)
end_bound_of w =
    if slice_index_or w 0 0 == 61 then (number_of (drop 1 w) >>= λ n. Some (Some (behind n))) else bound_of w

-- the two bounds of a range
unfoldable pub bounds_of : List ℕ → List ℕ → Option Range
bounds_of from to = do
  a ← bound_of from
  b ← end_bound_of to
  Some (a, b)

-- the two bounds with two dots between them
unfoldable pub range_of : List ℕ → Option Range
range_of w = do
  k ← position (λ c. c == 46) w
  if slice_index_or w (k + 1) 0 == 46 then bounds_of (take k w) (drop (k + 2) w) else None

-- the first word as a range, and the words after it
unfoldable pub range_at : List (List ℕ) → Option (Range × List (List ℕ))
range_at [] = None
range_at (w ∷ ws) = range_of w >>= λ r. Some (r, ws)

-- the letter of an end
unfoldable pub end_of : ℕ → Option End
end_of letter = if letter == 102 then Some Front else (if letter == 98 then Some Back else None)

-- an end for each letter
unfoldable pub ends_from : List ℕ → Option (List End)
ends_from [] = Some []
ends_from (c ∷ cs) = end_of c >>= λ e. ends_from cs >>= λ es. Some (e ∷ es)

-- one or more letters
unfoldable pub ends_of : List ℕ → Option (List End)
ends_of [] = None
ends_of (c ∷ cs) = ends_from (c ∷ cs)

-- the first word as ends, and the words after it
unfoldable pub ends_at : List (List ℕ) → Option (List End × List (List ℕ))
ends_at [] = None
ends_at (w ∷ ws) = ends_of w >>= λ es. Some (es, ws)

-- a number for each word
unfoldable pub numbers_of : List (List ℕ) → Option (List ℕ)
numbers_of [] = Some []
numbers_of (w ∷ ws) = number_of w >>= λ n. numbers_of ws >>= λ ns. Some (n ∷ ns)

-- the JSON value of a text in UTF-8, nested at most 127 deep
unfoldable pub json_of : List ℕ → Option Data
json_of text = if is_utf8 text then read text else None

-- the JSON value of all the words, with the spaces between them; where there are none
-- it is that of the empty text, which has none
unfoldable pub json_at : List (List ℕ) → Option Data
json_at ws = json_of (join_with_byte 32 ws)

-- ---- all arguments of a command

-- one number
unfoldable pub one : List (List ℕ) → Option ℕ
one ws = do
  a ← number_at ws
  end ← at_end a.1
  Some a.0

-- two numbers
unfoldable pub two : List (List ℕ) → Option (ℕ × ℕ)
two ws = do
  a ← number_at ws
  b ← number_at a.1
  end ← at_end b.1
  Some (a.0, b.0)

-- three numbers
unfoldable pub three : List (List ℕ) → Option (ℕ × ℕ × ℕ)
three ws = do
  a ← number_at ws
  b ← number_at a.1
  c ← number_at b.1
  end ← at_end c.1
  Some (a.0, b.0, c.0)

-- two numbers and a flag
unfoldable pub two_and_flag : List (List ℕ) → Option (ℕ × ℕ × Bool)
two_and_flag ws = do
  a ← number_at ws
  b ← number_at a.1
  e ← flag_at b.1
  end ← at_end e.1
  Some (a.0, b.0, e.0)

-- a number and a range
unfoldable pub one_and_range : List (List ℕ) → Option (ℕ × Range)
one_and_range ws = do
  a ← number_at ws
  r ← range_at a.1
  end ← at_end r.1
  Some (a.0, r.0)

-- a number, a range and a flag
unfoldable pub range_and_flag : List (List ℕ) → Option (ℕ × Range × Bool)
range_and_flag ws = do
  a ← number_at ws
  r ← range_at a.1
  e ← flag_at r.1
  end ← at_end e.1
  Some (a.0, r.0, e.0)

-- a number and ends
unfoldable pub one_and_ends : List (List ℕ) → Option (ℕ × List End)
one_and_ends ws = do
  a ← number_at ws
  es ← ends_at a.1
  end ← at_end es.1
  Some (a.0, es.0)

-- two numbers and ends
unfoldable pub two_and_ends : List (List ℕ) → Option (ℕ × ℕ × List End)
two_and_ends ws = do
  a ← number_at ws
  b ← number_at a.1
  es ← ends_at b.1
  end ← at_end es.1
  Some (a.0, b.0, es.0)

-- a number, and none, one or more numbers
unfoldable pub one_and_list : List (List ℕ) → Option (ℕ × List ℕ)
one_and_list ws = do
  a ← number_at ws
  ns ← numbers_of a.1
  Some (a.0, ns)

-- two numbers, and none, one or more numbers
unfoldable pub two_and_list : List (List ℕ) → Option (ℕ × ℕ × List ℕ)
two_and_list ws = do
  a ← number_at ws
  b ← number_at a.1
  ns ← numbers_of b.1
  Some (a.0, b.0, ns)

-- a number and a JSON value
unfoldable pub one_and_json : List (List ℕ) → Option (ℕ × Data)
one_and_json ws = do
  a ← number_at ws
  d ← json_at a.1
  Some (a.0, d)
