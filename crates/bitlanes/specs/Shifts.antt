-- Rows of words seen from any bit on.
use Rattle.std.specs.Prelude.{ℕ, ◌+◌, ◌-◌, ◌*◌, ◌/◌, ◌%◌, ◌^◌, min, bit_or, nat_lt, if◌then◌else◌, List, slice_index}
use Rattle.std.specs.Int.{div_ceil}
use Rattle.bitlanes.specs.Words.{lane_steps}

-- the 64 bits from bit r on of two words that follow each other, `low` the first of them
unfoldable pub straddle : (r low high : ℕ) → ℕ
straddle r low high = bit_or (low / 2 ^ r) (high * 2 ^ 1 % 2 ^ 64 * 2 ^ (63 - r) % 2 ^ 64)

-- the 64 bits of a row from bit p on (past the last word `slice_index` is 0)
unfoldable pub window : List ℕ → ℕ → ℕ
window ws p = straddle (p % 64) (slice_index ws (p / 64)) (slice_index ws (p / 64 + 1))

-- to join n words with what stands `by` below them: those that have 64 bits there, and one that has fewer
abbrev pub up_steps : (n by : ℕ) → ℕ
up_steps n by = if nat_lt n (div_ceil by 64) then 0 else lane_steps (n - div_ceil by 64) + min (by % 64) 1
