-- What holds of two sets of any two lengths, for all values.
use Rattle.std.specs.Prelude.{◌≡◌, ℕ, ◌+◌, ◌-◌, ◌/◌, ◌≤◌, max, min, Bool, IsTrue, ◌↔◌}
use Rattle.bitlanes.specs.Words.{lane_steps}
use Rattle.bitwords.specs.Steps.{join_steps, both_steps, join_up_steps, search_steps}
use Rattle.fixedbitset.specs.Bits.{Bits, contains, words_needed, storage_words}
use Rattle.fixedbitset.specs.Ranges.{count_ones}
use Rattle.fixedbitset.specs.TwoSets.{union_count, intersection_count, difference_count}
use Rattle.fixedbitset.specs.TwoSets.{symmetric_difference_count, is_subset, is_disjoint}

-- the positions of either and those of both are as many as those of the two sets
abbrev pub CountsAddUp : Type 0
CountsAddUp =
    (v w : Bits) → union_count v w + intersection_count v w ≡ count_ones v 0 v.length + count_ones w 0 w.length

-- the positions of exactly one are those that the second lacks and those that the first lacks
abbrev pub SymmetricDifferenceIsSum : Type 0
SymmetricDifferenceIsSum = (v w : Bits) → symmetric_difference_count v w ≡ difference_count v w + difference_count w v

-- each is a subset of the other exactly if they have the same positions, whatever their lengths
abbrev pub SubsetBothWays : Type 0
SubsetBothWays = (v w : Bits) → (IsTrue (is_subset v w) × IsTrue (is_subset w v)) ↔ (v.positions ≡ w.positions)

-- `is_subset` is true exactly if the second has each position of the first
abbrev pub IsSubsetTells : Type 0
IsSubsetTells = (v w : Bits) → IsTrue (is_subset v w) ↔ ((p : ℕ) → IsTrue (contains v p) → IsTrue (contains w p))

-- `is_disjoint` is true exactly if no position is in both
abbrev pub IsDisjointTells : Type 0
IsDisjointTells =
    (v w : Bits) → IsTrue (is_disjoint v w) ↔ ((p : ℕ) → IsTrue (contains v p) → ¬ (IsTrue (contains w p)))

-- steps that suffice over n and m words: by fours over those that both have, and over the rest of the longer
abbrev pub most_steps : ℕ → ℕ → ℕ
most_steps n m = min n m / 4 + 3 + ((max n m - min n m) / 4 + 3)

-- no call over two sets of these lengths takes more steps than suffice over their words
abbrev pub StepsBound : Type 0
StepsBound = (keep take : Bool) (n m : ℕ)
    → (join_steps keep (storage_words n) (storage_words m) ≤ most_steps (words_needed n) (words_needed m))
    × (both_steps keep take (storage_words n) (storage_words m) ≤ most_steps (words_needed n) (words_needed m))

-- the two parts apart: over the words that both lengths need, and over those that only the longer one needs
abbrev pub PartsBound : Type 0
PartsBound = (n m : ℕ)
    → (lane_steps (min (storage_words n) (storage_words m)) ≤ min (words_needed n) (words_needed m) / 4 + 3)
    × (lane_steps (storage_words n - storage_words m) ≤ (words_needed n - words_needed m) / 4 + 3)

-- `next_common` goes over words that both lengths need alone
abbrev pub NextCommonBound : Type 0
NextCommonBound = (n m from : ℕ)
    → 1 + lane_steps (storage_words (min n m) - 1 - from / 64) ≤ min (words_needed n) (words_needed m) / 4 + 3

-- one kernel over the words of the second set takes no more: it is what a call
-- that grows takes, and a copy or a comparison
abbrev pub WholeStepsBound : Type 0
WholeStepsBound = (n m : ℕ) → (lane_steps (words_needed m) ≤ most_steps (words_needed n) (words_needed m))
    × (lane_steps (storage_words m) ≤ most_steps (words_needed n) (words_needed m))

-- nor does a set that is moved up into k words, as a shifted join and `append` take it
abbrev pub MovedStepsBound : Type 0
MovedStepsBound = (k n m by : ℕ) → join_up_steps k (storage_words m) by ≤ most_steps (words_needed n) (words_needed m)

-- nor does a range of the second set that is copied to where the first has room
abbrev pub CopyStepsBound : Type 0
CopyStepsBound = (n m at size : ℕ) → size ≤ m → at + size ≤ n
    → search_steps at (at + size) ≤ most_steps (words_needed n) (words_needed m)

-- where both lengths need as many words, each takes the steps of one kernel over them
abbrev pub StepsOfEqual : Type 0
StepsOfEqual = (keep take : Bool) (n m : ℕ) → words_needed n ≡ words_needed m
    → (join_steps keep (storage_words n) (storage_words m) ≡ lane_steps (words_needed n))
    × (both_steps keep take (storage_words n) (storage_words m) ≡ lane_steps (words_needed n))
