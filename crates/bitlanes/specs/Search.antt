-- The words of a row that are not 0, before and after a place of it.
use Rattle.std.specs.Prelude.{◌≡◌, ◌≢◌, ℕ, ◌<◌, ◌≤◌, List, length, slice_index}

-- word k is there and not 0, and each word from place `from` up to it is 0
pub record IsNextOne (words : List ℕ) (from k : ℕ) : Type 0 where
  pub after : from ≤ k
  pub within : k < length words
  pub one : slice_index words k ≢ 0
  pub zeros : (i : ℕ) → from ≤ i → i < k → slice_index words i ≡ 0

-- word k stands below place `below` and is not 0, and each word between is 0
pub record IsPreviousOne (words : List ℕ) (below k : ℕ) : Type 0 where
  pub before : k < below
  pub one : slice_index words k ≢ 0
  pub zeros : (i : ℕ) → k < i → i < below → slice_index words i ≡ 0

-- each word from place `from` on is 0
abbrev pub AreZerosFrom : List ℕ → ℕ → Type 0
AreZerosFrom words from = (i : ℕ) → from ≤ i → slice_index words i ≡ 0

-- each word below place `below` is 0
abbrev pub AreZerosBelow : List ℕ → ℕ → Type 0
AreZerosBelow words below = (i : ℕ) → i < below → slice_index words i ≡ 0

-- the first word that is not 0
abbrev pub IsFirstOne : List ℕ → ℕ → Type 0
IsFirstOne words k = IsNextOne words 0 k

-- the last word that is not 0
abbrev pub IsLastOne : List ℕ → ℕ → Type 0
IsLastOne words k = IsPreviousOne words (length words) k

-- each word is 0
abbrev pub AreZeros : List ℕ → Type 0
AreZeros words = AreZerosFrom words 0
