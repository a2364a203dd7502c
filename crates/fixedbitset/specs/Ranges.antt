-- A range of positions, and what each call with a range makes of a value or tells of it.
use Rattle.std.specs.Prelude.{ℕ, Bool, ◌&&◌, ◌==◌, not, nat_le, if◌then◌else◌, Option, unwrap_or}
use Rattle.std.specs.FinSet as set
use Rattle.fixedbitset.specs.Numbers.{numbers_between, symmetric_difference}
use Rattle.fixedbitset.specs.Bits.{Bits, pair}

-- ---- which positions

-- a range starts at its start, or at 0 where it has none
abbrev pub start_of : Option ℕ → ℕ
start_of start = unwrap_or start 0

-- a range ends before its end, or before n, the length, where it has none
abbrev pub end_of : Option ℕ → ℕ → ℕ
end_of end n = unwrap_or end n

-- what f makes of the value over a range whose ends may be absent
abbrev pub over : {A : Type 0} → (Bits → ℕ → ℕ → A) → Bits → Option ℕ → Option ℕ → A
over f v start end = f v (start_of start) (end_of end v.length)

-- the start is not past the end, nor the end past the length
abbrev pub is_valid : Bits → ℕ → ℕ → Bool
is_valid v start end = nat_le start end && nat_le end v.length

-- ---- changes

-- the positions of the range are set
unfoldable pub insert_range : Bits → ℕ → ℕ → Bits
insert_range v start end = pair v.length (set.union v.positions (numbers_between start end))

-- the positions of the range are not set
unfoldable pub remove_range : Bits → ℕ → ℕ → Bits
remove_range v start end = pair v.length (set.difference v.positions (numbers_between start end))

-- each position of the range is set exactly if it was not
unfoldable pub toggle_range : Bits → ℕ → ℕ → Bits
toggle_range v start end = pair v.length (symmetric_difference v.positions (numbers_between start end))

-- the positions of the range are set or not, as `enabled` says
unfoldable pub set_range : Bits → ℕ → ℕ → Bool → Bits
set_range v start end enabled = if enabled then insert_range v start end else remove_range v start end

-- ---- parts

-- the positions that lie in the range, at the same length
unfoldable pub within : Bits → ℕ → ℕ → Bits
within v start end = pair v.length (set.intersection v.positions (numbers_between start end))

-- ---- questions

-- how many positions of the range are set
unfoldable pub count_ones : Bits → ℕ → ℕ → ℕ
count_ones v start end = set.len (set.intersection (numbers_between start end) v.positions)

-- how many positions of the range are not set
unfoldable pub count_zeroes : Bits → ℕ → ℕ → ℕ
count_zeroes v start end = set.len (set.difference (numbers_between start end) v.positions)

-- each position of the range is set
unfoldable pub contains_all : Bits → ℕ → ℕ → Bool
contains_all v start end = set.is_subset (numbers_between start end) v.positions

-- some position of the range is set
unfoldable pub contains_any : Bits → ℕ → ℕ → Bool
contains_any v start end = not (count_ones v start end == 0)
