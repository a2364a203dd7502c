-- Numbers that pass a test and follow each other, and the first place with room for so many.
use Rattle.std.specs.Prelude.{ℕ, suc, zero, ◌+◌, ◌-◌, ◌*◌, ◌/◌, ◌%◌, ◌==◌}
use Rattle.std.specs.Prelude.{Bool, true, not, ◌&&◌, nat_le, nat_lt, if◌then◌else◌, Option, slice_get}
use Rattle.std.specs.Int.{div_ceil}
use Rattle.std.specs.declared.option.Option.TheVariants.{None}
use Rattle.std.specs.List.{last_or}
use Rattle.bitlanes.specs.Bits.{bit}
use Rattle.bitlanes.specs.Words.{lane_steps}
use Rattle.bitwords.specs.Ascending.{ascending}
use Rattle.bitwords.specs.Rows.{count_below}
use Rattle.bitwords.specs.Runs.{begins}
use Rattle.bitwords.specs.Steps.{range_words}

-- whether the k numbers from i on pass
abbrev pub all_pass : (ℕ → Bool) → ℕ → ℕ → Bool
all_pass test zero i = true
all_pass test (suc k) i = test i && all_pass test k (i + 1)

-- whether the k bits from i on are set
abbrev pub has_run : ℕ → ℕ → ℕ → Bool
has_run word k i = all_pass (bit word) k i

-- whether the `count` numbers from p on are below the end and not taken
unfoldable pub has_room_in : (ℕ → Bool) → (end count p : ℕ) → Bool
has_room_in taken end count p = nat_le (p + count) end && all_pass (λ q. not (taken q)) count p

-- the least number at or past `from` with so much room
unfoldable pub first_room : (ℕ → Bool) → (end count from : ℕ) → Option ℕ
first_room taken end count from = slice_get (ascending (has_room_in taken end count) from (end + 1 - from)) 0

-- whether p is a multiple: of 0 that is 0 alone, for the rest of p by 0 is p
abbrev pub is_multiple : (align p : ℕ) → Bool
is_multiple align p = p % align == 0

-- the least multiple of `align` at or past `from` with so much room
unfoldable pub first_aligned_room : (ℕ → Bool) → (end count align from : ℕ) → Option ℕ
first_aligned_room taken end count align from =
    slice_get (ascending (λ p. is_multiple align p && has_room_in taken end count p) from (end + 1 - from)) 0

-- the steps of such a search at most: two for each lane and one for each multiple; where align ≤ 1, one for each lane
abbrev pub aligned_steps : (align start end : ℕ) → ℕ
aligned_steps align start end =
    if nat_lt 1 align
    then 2 * lane_steps (range_words start end) + (end - start) / align
    else lane_steps (range_words start end)

-- the greatest number with so much room below the end
unfoldable pub last_room : (ℕ → Bool) → (end count : ℕ) → Option ℕ
last_room taken end count = last_or None (ascending (has_room_in taken end count) 0 (end + 1))

-- the steps of such a search at most: two for each run that begins below the end, two more, and one for each word
abbrev pub last_steps : (ℕ → Bool) → (end : ℕ) → ℕ
last_steps taken end = 2 * (count_below (begins taken) end + 1) + div_ceil end 64
