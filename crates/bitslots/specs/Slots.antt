-- Slots: the length is how many there are, and the positions are those that are taken.
use Rattle.std.specs.Prelude.{◌≡◌, ℕ, ◌+◌, ◌<◌, ◌≤◌, IsTrue, Option, MatchOption}
use Rattle.bitwords.specs.Gaps.{is_multiple}
use Rattle.fixedbitset.specs.Bits.{Bits, contains, insert}
use Rattle.fixedbitset.specs.Ranges.{insert_range, count_ones, count_zeroes}

abbrev pub IsTaken : Bits → ℕ → Type 0
IsTaken slots slot = IsTrue (contains slots slot)

-- there is such a slot, and it is not taken
abbrev pub IsFree : Bits → ℕ → Type 0
IsFree slots slot = (slot < slots.length) × ¬ (IsTaken slots slot)

-- a free slot, and no free slot is less
abbrev pub IsLeastFree : Bits → ℕ → Type 0
IsLeastFree slots slot = IsFree slots slot × ((other : ℕ) → IsFree slots other → slot ≤ other)

abbrev pub AreAllTaken : Bits → Type 0
AreAllTaken slots = (slot : ℕ) → slot < slots.length → IsTaken slots slot

-- what `take` returns: the least free slot, or none if all are taken
abbrev pub IsAnswer : Bits → Option ℕ → Type 0
IsAnswer slots answer = MatchOption answer (AreAllTaken slots) (λ slot. IsLeastFree slots slot)

-- what it leaves: that slot is taken too
abbrev pub IsLeft : Bits → Option ℕ → Bits → Type 0
IsLeft slots answer new = MatchOption answer (new ≡ slots) (λ slot. new ≡ insert slots slot)

-- there are the `count` slots from `start` on, and each of them is free
abbrev pub IsFreeStretch : Bits → (count start : ℕ) → Type 0
IsFreeStretch slots count start =
    (start + count ≤ slots.length) × ((slot : ℕ) → start ≤ slot → slot < start + count → ¬ (IsTaken slots slot))

-- there are these slots, and each of them is taken
abbrev pub IsTakenStretch : Bits → (count start : ℕ) → Type 0
IsTakenStretch slots count start =
    (start + count ≤ slots.length) × ((slot : ℕ) → start ≤ slot → slot < start + count → IsTaken slots slot)

-- a free stretch from `start` on, and none that is free begins before it at or past `from`
abbrev pub IsLeastStretch : Bits → (count from start : ℕ) → Type 0
IsLeastStretch slots count from start =
    (from ≤ start) × IsFreeStretch slots count start
    × ((other : ℕ) → from ≤ other → IsFreeStretch slots count other → start ≤ other)

-- no free stretch of so many slots begins at or past `from`
abbrev pub HasNoStretch : Bits → (count from : ℕ) → Type 0
HasNoStretch slots count from = (start : ℕ) → from ≤ start → ¬ (IsFreeStretch slots count start)

-- what `take_stretch` returns: where the least free stretch begins, or none if there is none
abbrev pub IsStretchAnswer : Bits → (count from : ℕ) → Option ℕ → Type 0
IsStretchAnswer slots count from answer =
    MatchOption answer (HasNoStretch slots count from) (λ start. IsLeastStretch slots count from start)

-- a free stretch from a multiple of `align` on, and none that is free begins at a lesser one
abbrev pub IsLeastAligned : Bits → (count align start : ℕ) → Type 0
IsLeastAligned slots count align start =
    IsTrue (is_multiple align start) × IsFreeStretch slots count start
    × ((other : ℕ) → IsTrue (is_multiple align other) → IsFreeStretch slots count other → start ≤ other)

-- what `take_aligned_stretch` returns: where that stretch begins, or none if there is none
abbrev pub IsAlignedAnswer : Bits → (count align : ℕ) → Option ℕ → Type 0
IsAlignedAnswer slots count align answer =
    MatchOption answer
    ((start : ℕ) → IsTrue (is_multiple align start) → ¬ (IsFreeStretch slots count start))
    (λ start. IsLeastAligned slots count align start)

-- what a stretch that is taken leaves: its slots are taken too
abbrev pub IsStretchLeft : Bits → (count : ℕ) → Option ℕ → Bits → Type 0
IsStretchLeft slots count answer new =
    MatchOption answer (new ≡ slots) (λ start. new ≡ insert_range slots start (start + count))

-- how many slots are free, and how many are taken
abbrev pub free_count : Bits → ℕ
free_count slots = count_zeroes slots 0 slots.length

abbrev pub taken_count : Bits → ℕ
taken_count slots = count_ones slots 0 slots.length
