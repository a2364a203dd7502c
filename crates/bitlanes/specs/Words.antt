-- Rows of words joined, and the steps of a kernel.
use Rattle.std.specs.Prelude.{ℕ, ◌-◌, Bool, List, [], ◌∷◌, ◌++◌, replicate, if◌then◌else◌}
use Rattle.std.specs.Int.{div_ceil}
use Rattle.std.specs.Simd.Lanes.{chunk}

-- the words of two rows joined by f as far as both go, and then the rest of the longer row, if it is kept
abbrev pub zip_longest : (ℕ → ℕ → ℕ) → Bool → Bool → List ℕ → List ℕ → List ℕ
zip_longest f keep_left keep_right [] ys = if keep_right then ys else []
zip_longest f keep_left keep_right (x ∷ xs) [] = if keep_left then x ∷ xs else []
zip_longest f keep_left keep_right (x ∷ xs) (y ∷ ys) = f x y ∷ zip_longest f keep_left keep_right xs ys

-- the n words from i on, and zeros up to four
abbrev pub filled : ℕ → ℕ → List ℕ → List ℕ
filled i n words = chunk i n words ++ replicate (4 - n) 0

-- how many steps a kernel takes over m words, by lanes of four, the last of which may be filled with zeros
abbrev pub lane_steps : ℕ → ℕ
lane_steps m = div_ceil m 4
