-- The ends of a range.
use Rattle.std.specs.Prelude.{ℕ, ◌+◌, ◌-◌, ◌^◌, min}

-- the index behind this one; the greatest number has none behind it, and stands for it
abbrev pub behind : ℕ → ℕ
behind index = min (index + 1) (2 ^ 64 - 1)
