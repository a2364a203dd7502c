-- The ones of rows of words.
use Rattle.std.specs.Prelude.{ℕ, Bool, ◌==◌, List, sum_by, take}
use Rattle.std.specs.List.{list_all}
use Rattle.std.specs.Int.RustNames.{count_ones}
use Rattle.std.specs.Simd.Lanes.{zip2, chunk}

-- the ones of a row
abbrev pub ones_of : List ℕ → ℕ
ones_of words = sum_by count_ones words

-- the ones of the n words from i on, of two rows joined by f
abbrev pub ones_at : ℕ → ℕ → (ℕ → ℕ → ℕ) → List ℕ → List ℕ → ℕ
ones_at i n f xs ys = ones_of (chunk i n (zip2 f xs ys))

-- the ones of the first n words of two rows joined by f
abbrev pub ones_up_to : ℕ → (ℕ → ℕ → ℕ) → List ℕ → List ℕ → ℕ
ones_up_to n f xs ys = ones_of (take n (zip2 f xs ys))

-- whether a row has no ones
abbrev pub has_no_ones : List ℕ → Bool
has_no_ones words = list_all (λ word. word == 0) words
