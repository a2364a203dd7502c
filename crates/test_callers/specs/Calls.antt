-- Calls of an iterator from its two ends, as a function of the list that was left.
use Rattle.std.specs.Prelude.{ℕ, Bool, true, false, Option, Some, None, List, [], ◌∷◌, reverse}

-- the first of a list, and the others
abbrev pub first_of : List ℕ → Option ℕ
first_of [] = None
first_of (x ∷ xs) = Some x

abbrev pub without_first : List ℕ → List ℕ
without_first [] = []
without_first (x ∷ xs) = xs

-- what a call from an end returns (`true` is the front), and what it leaves
abbrev pub answer : Bool → List ℕ → Option ℕ
answer true xs = first_of xs
answer false xs = first_of (reverse xs)

abbrev pub rest : Bool → List ℕ → List ℕ
rest true xs = without_first xs
rest false xs = reverse (without_first (reverse xs))

-- the results of calls from these ends in turn, and what they leave
abbrev pub answers : List Bool → List ℕ → List (Option ℕ)
answers [] xs = []
answers (end ∷ ends) xs = answer end xs ∷ answers ends (rest end xs)

abbrev pub left_after : List Bool → List ℕ → List ℕ
left_after [] xs = xs
left_after (end ∷ ends) xs = left_after ends (rest end xs)
