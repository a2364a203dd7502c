-- The end of an inclusive range, for those who call with one.
use Rattle.std.specs.Prelude.{◌≡◌, ℕ, ◌+◌, ◌^◌, ◌<◌}
use Rattle.std.proofs.Common.{arith}
use Rattle.bitlanes.specs.Range.{behind}

-- behind an index below the greatest number is the next one
pub behind_next : (index : ℕ) → index + 1 < 2 ^ 64 → behind index ≡ index + 1
behind_next index fits = omega arith
