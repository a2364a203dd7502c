-- The positions next to a given one, and the one with so many before it.
use Rattle.std.specs.Prelude.{◌≡◌, ℕ, ◌<◌, ◌≤◌, Bool, true, false}
use Rattle.bitwords.specs.Rows.{count_below}

-- p is the least number at or past `from` and below `end` that passes
pub record IsNext (test : ℕ → Bool) (from end p : ℕ) : Type 0 where
  pub after : from ≤ p
  pub below : p < end
  pub passes : test p ≡ true
  pub none : (i : ℕ) → from ≤ i → i < p → test i ≡ false

-- p is the greatest number below `end` that passes
pub record IsPrevious (test : ℕ → Bool) (end p : ℕ) : Type 0 where
  pub below : p < end
  pub passes : test p ≡ true
  pub none : (i : ℕ) → p < i → i < end → test i ≡ false

-- no number at or past `from` and below `end` passes
abbrev pub NonePasses : (ℕ → Bool) → ℕ → ℕ → Type 0
NonePasses test from end = (i : ℕ) → from ≤ i → i < end → test i ≡ false

-- p passes, and k numbers below it do
pub record IsNth (test : ℕ → Bool) (k p : ℕ) : Type 0 where
  pub passes : test p ≡ true
  pub before : count_below test p ≡ k
