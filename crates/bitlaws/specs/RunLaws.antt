-- What the runs of a set are.
use Rattle.std.specs.Prelude.{◌≡◌, ◌↔◌, ℕ, ◌+◌, ◌<◌, ◌≤◌, Bool, true, false, IsTrue, MatchOption, List, [], ◌∷◌}
use Rattle.bitwords.specs.Gaps.{is_multiple}
use Rattle.bitwords.specs.Neighbours.{NonePasses}
use Rattle.fixedbitset.specs.Bits.{Bits, contains, complement}
use Rattle.fixedbitset.specs.Runs.{runs, zero_runs, has_room, first_gap, first_aligned_gap}

-- from `low` up to n these are the numbers that pass, as start and end: none before a stretch passes, each number of it
-- does, and the one behind it does not
unfoldable pub AreStretches : (ℕ → Bool) → (low n : ℕ) → List (ℕ × ℕ) → Type 0
AreStretches test low n [] = NonePasses test low n
AreStretches test low n (run ∷ others) =
    (low ≤ run.0) × NonePasses test low run.0
    × (run.0 < run.1) × ((p : ℕ) → run.0 ≤ p → p < run.1 → test p ≡ true)
    × (run.1 ≤ n) × (run.1 < n → test run.1 ≡ false)
    × AreStretches test run.1 n others

-- those of a set are its positions
abbrev pub RunsAreTheSet : Type 0
RunsAreTheSet = (v : Bits) → AreStretches (contains v) 0 v.length (runs v)

-- and those that are clear are the others below the length
abbrev pub ZeroRunsAreTheOthers : Type 0
ZeroRunsAreTheOthers = (v : Bits) → AreStretches (contains (complement v)) 0 v.length (zero_runs v)

-- there is room exactly if the positions are below the length and none of them is set
abbrev pub RoomTells : Type 0
RoomTells = (v : Bits) (count p : ℕ) → IsTrue (has_room v count p)
    ↔ ((p + count ≤ v.length) × ((q : ℕ) → p ≤ q → q < p + count → ¬ (IsTrue (contains v q))))

-- the first gap is the least number with room, and where there is none no number has
abbrev pub GapIsLeast : Type 0
GapIsLeast = (v : Bits) (count from : ℕ) → MatchOption (first_gap v count from)
    ((p : ℕ) → from ≤ p → ¬ (IsTrue (has_room v count p)))
    (λ p. (from ≤ p) × IsTrue (has_room v count p) × ((q : ℕ) → from ≤ q → IsTrue (has_room v count q) → p ≤ q))

-- the first gap at a multiple is the least one of these numbers with room before the end
abbrev pub AlignedGapIsLeast : Type 0
AlignedGapIsLeast = (v : Bits) (count align start end : ℕ) → MatchOption (first_aligned_gap count align v start end)
    ((p : ℕ) → start ≤ p → IsTrue (is_multiple align p) → p + count ≤ end → ¬ (IsTrue (has_room v count p)))
    (λ p. (start ≤ p) × IsTrue (is_multiple align p) × (p + count ≤ end) × IsTrue (has_room v count p)
    × ((q : ℕ) → start ≤ q → IsTrue (is_multiple align q) → q + count ≤ end → IsTrue (has_room v count q) → p ≤ q))
