-- The runs of a value: positions that follow each other without a gap, as
-- start and end. The end is the first behind.
use Rattle.std.specs.Prelude.{ℕ, ◌+◌, ◌-◌, Bool, not, ◌&&◌, nat_le, Option, List, slice_get}
use Rattle.std.specs.declared.option.Option.TheVariants.{None}
use Rattle.std.specs.List.{last_or}
use Rattle.bitwords.specs.Ascending.{ascending}
use Rattle.bitwords.specs.Gaps.{is_multiple}
use Rattle.bitwords.specs.Runs.{stretches}
use Rattle.fixedbitset.specs.Bits.{Bits, contains, complement}
use Rattle.fixedbitset.specs.Ranges.{contains_any}

-- the `count` positions from p on are below the length, and none of them is set
unfoldable pub has_room : Bits → (count p : ℕ) → Bool
has_room v count p = nat_le (p + count) v.length && not (contains_any v p (p + count))

-- the least number at or past `from` with `count` such positions
unfoldable pub first_gap : Bits → (count from : ℕ) → Option ℕ
first_gap v count from = slice_get (ascending (has_room v count) from (v.length + 1 - from)) 0

-- the least multiple of `align` at or past `start` with `count` such positions below `end`
unfoldable pub first_aligned_gap : (count align : ℕ) → Bits → (start end : ℕ) → Option ℕ
first_aligned_gap count align v start end =
    slice_get (ascending (λ p. is_multiple align p && (nat_le (p + count) end && has_room v count p)) start
    (end + 1 - start)) 0

-- the greatest number with `count` such positions below `below`
unfoldable pub last_gap : Bits → (count below : ℕ) → Option ℕ
last_gap v count below =
    last_or None (ascending (λ p. nat_le (p + count) below && has_room v count p) 0 (v.length + 1))

-- of positions that are set, in ascending order
unfoldable pub runs : Bits → List (ℕ × ℕ)
runs v = stretches (contains v) v.length 0 v.length

-- of positions below the length that are not set, in ascending order
unfoldable pub zero_runs : Bits → List (ℕ × ℕ)
zero_runs v = runs (complement v)
