-- What holds of ranges, for all values.
use Rattle.std.specs.Prelude.{◌≡◌, ℕ, ◌+◌, ◌-◌, ◌/◌, ◌<◌, ◌≤◌, IsTrue, ◌↔◌}
use Rattle.std.specs.Ordering.{nat_cmp}
use Rattle.std.specs.FinSet as set
use Rattle.std.specs.FinSet.{FinSet}
use Rattle.bitwords.specs.Steps.{range_words, search_steps}
use Rattle.fixedbitset.specs.Bits.{Bits, contains, words_needed}
use Rattle.fixedbitset.specs.Ranges.{is_valid, toggle_range, count_ones, count_zeroes, contains_all, contains_any}

-- some position of the range is one of word k
abbrev pub HoldsPosition : ℕ → ℕ → ℕ → Type 0
HoldsPosition start end k = (p : ℕ) × (start ≤ p) × (p < end) × (p / 64 ≡ k)

-- a word holds a position of the range exactly if it is not before that of the
-- start, and among those that `end` positions need
abbrev pub WordsOfRange : Type 0
WordsOfRange = (start end k : ℕ) → start < end → HoldsPosition start end k ↔ ((start / 64 ≤ k) × (k < words_needed end))

-- a set of exactly the words that hold a position of the range has `range_words` members
abbrev pub NumberOfRangeWords : Type 0
NumberOfRangeWords = (start end : ℕ) (words : FinSet nat_cmp)
    → ((k : ℕ) → IsTrue (set.contains words k) ↔ HoldsPosition start end k) → set.len words ≡ range_words start end

-- they are at most two more than the 64ths of the range
abbrev pub RangeWordsBound : Type 0
RangeWordsBound = (start end : ℕ) → range_words start end ≤ (end - start) / 64 + 2

-- a search takes no more steps than one for each of these words
abbrev pub SearchBound : Type 0
SearchBound = (start end : ℕ) → search_steps start end ≤ range_words start end

-- toggling a range twice leaves the value as it was
abbrev pub TogglingTwice : Type 0
TogglingTwice = (v : Bits) (start end : ℕ) → toggle_range (toggle_range v start end) start end ≡ v

-- the positions of a range that are set and those that are not are as many as the range has
abbrev pub RangeCountsAddUp : Type 0
RangeCountsAddUp = (v : Bits) (start end : ℕ) → count_ones v start end + count_zeroes v start end ≡ end - start

-- a range is valid exactly if its start is not past its end, and its end not past the length
abbrev pub IsValidTells : Type 0
IsValidTells = (v : Bits) (start end : ℕ) → IsTrue (is_valid v start end) ↔ ((start ≤ end) × (end ≤ v.length))

-- `contains_all` is true exactly if each position of the range is set
abbrev pub ContainsAllTells : Type 0
ContainsAllTells = (v : Bits) (start end : ℕ)
    → IsTrue (contains_all v start end) ↔ ((p : ℕ) → start ≤ p → p < end → IsTrue (contains v p))

-- `contains_any` is true exactly if some position of the range is set
abbrev pub ContainsAnyTells : Type 0
ContainsAnyTells = (v : Bits) (start end : ℕ)
    → IsTrue (contains_any v start end) ↔ ((p : ℕ) × (start ≤ p) × (p < end) × IsTrue (contains v p))
