-- The steps of a call. A step is one lane of four words, or one word.
use Rattle.std.specs.Prelude.{◌≡◌, ℕ, ◌+◌, ◌-◌, ◌*◌, ◌/◌, ◌%◌, min, List, Bool, false, nat_lt, if◌then◌else◌}
use Rattle.std.specs.Int.{div_ceil}
use Rattle.bitlanes.specs.Shifts.{up_steps}
use Rattle.bitlanes.specs.Words.{lane_steps}

-- how many words hold a position of the range
abbrev pub range_words : ℕ → ℕ → ℕ
range_words start end = if nat_lt start end then div_ceil end 64 - start / 64 else 0

-- how many words hold positions of the range alone
abbrev pub whole_words : ℕ → ℕ → ℕ
whole_words start end = end / 64 - div_ceil start 64

-- to search the words of a range: by lanes over those that are wholly in it, and one by one over the others
abbrev pub search_steps : ℕ → ℕ → ℕ
search_steps start end = lane_steps (whole_words start end) + (range_words start end - whole_words start end)

-- the end of the word of position p
abbrev pub word_end : ℕ → ℕ
word_end p = 64 * (p / 64 + 1)

-- to join n words with m others: over those that both have, and over the rest of the first where it is cleared
abbrev pub join_steps : Bool → ℕ → ℕ → ℕ
join_steps keep n m = lane_steps (min n m) + (if keep then 0 else lane_steps (n - m))

-- to go through n and m words: over those that both have, and over the rest of each where it counts
abbrev pub both_steps : Bool → Bool → ℕ → ℕ → ℕ
both_steps keep take n m =
    lane_steps (min n m) + (if keep then lane_steps (n - m) else 0) + (if take then lane_steps (m - n) else 0)

-- to count n words, each joined with the word at its place of m others: over those that both have, and over the rest
-- of the first where it counts
abbrev pub beside_steps : Bool → ℕ → ℕ → ℕ
beside_steps keep n m = both_steps keep false n (min n m)

-- a count took the steps of one that holds these words between its ends, and one more for the ends
abbrev pub CountsLeft : {A : Type 0} → (A → List ℕ) → (A → ℕ) → List ℕ → (old new : ℕ) → Type 0
CountsLeft {A} words_of steps_of words old new =
    (middle : A) × (words_of middle ≡ words) × (new ≡ old + steps_of middle + 1)

-- to join n words with m others that are moved up: the first word, which may have
-- fewer than 64 of them, and those behind it
abbrev pub join_up_steps : (n m by : ℕ) → ℕ
join_up_steps n m by = min (min (by % 64) 1) (min (n - by / 64) m) + lane_steps (min (n - by / 64 - min (by % 64) 1) m)

-- to move n words up: none where `by` is 0, and over those below it where they are cleared
abbrev pub move_up_steps : Bool → (n by : ℕ) → ℕ
move_up_steps keep n by = if nat_lt 0 by then up_steps n by + (if keep then 0 else lane_steps (min n (by / 64))) else 0
