-- The runs of numbers that pass a test without a gap, as start and end: the end is the first number behind.
use Rattle.std.specs.Prelude.{◌≡◌, ◌≢◌, ℕ, ◌-◌, ◌+◌, ◌/◌, ◌<◌, ◌≤◌, Bool, true, false, not}
use Rattle.std.specs.Prelude.{◌&&◌, nat_lt, Option, IfSome, unwrap_or, List, map, slice_get}
use Rattle.std.specs.Iterator.{YieldsFirst, YieldsLast}
use Rattle.bitwords.specs.Ascending.{ascending}
use Rattle.bitwords.specs.Rows.{has_bit}

-- a stretch begins at p: p passes, and the number before it does not
abbrev pub begins : (ℕ → Bool) → ℕ → Bool
begins test p = test p && not (nat_lt 0 p && test (p - 1))

-- the least number at or past p and below n that does not pass, or n where there is none
abbrev pub end_from : (ℕ → Bool) → (n p : ℕ) → ℕ
end_from test n p = unwrap_or (slice_get (ascending (λ q. not (test q)) p (n - p)) 0) n

-- of the numbers below n, the runs that begin from `low` up to and without `high`, in ascending order
abbrev pub stretches : (ℕ → Bool) → (n low high : ℕ) → List (ℕ × ℕ)
stretches test n low high = map (λ p. (p, end_from test n p)) (ascending (begins test) low (high - low))

-- whether the position is set, or whether it is not
abbrev pub is_like : Bool → List ℕ → ℕ → Bool
is_like true words p = has_bit words p
is_like false words p = not (has_bit words p)

-- the runs left, the ends of where they are, and the steps that were taken
pub record RunWalk : Type 0 where
  pub items : List (ℕ × ℕ)
  pub low : ℕ
  pub high : ℕ
  pub steps : ℕ

-- no stretch of the numbers below n goes over `low` or over `high`: one ends at `low`, and one begins at `high`, but
-- for the ends of the numbers and where both meet
pub record IsBetween (test : ℕ → Bool) (n low high : ℕ) : Type 0 where
  pub order : low ≤ high
  pub within : high ≤ n
  pub from : low ≢ 0 → low ≢ high → (test (low - 1) ≡ true) × (test low ≡ false)
  pub to : high ≢ n → low ≢ high → (test high ≡ true) × (test (high - 1) ≡ false)

-- the steps of a call that passed so many words: one for each four, more for a
-- stretch that it gave, and at most four more
pub record Passes (words : ℕ) (given : Option (ℕ × ℕ)) (before after : ℕ) : Type 0 where
  pub least : before + words / 4 ≤ after
  pub more : IfSome given (λ _. before + words / 4 < after)
  pub most : after ≤ before + 4 + words / 4

-- a call gave the first of the runs left, or `None` where none was left, and went over words from the front
abbrev pub GivesFirstRun : RunWalk → Option (ℕ × ℕ) → RunWalk → Type 0
GivesFirstRun old result new = YieldsFirst (λ walk. walk.items) old result new × (new.high ≡ old.high)
    × Passes (new.low / 64 - old.low / 64) result old.steps new.steps

-- a call gave the last of the runs left, or `None` where none was left, and went over words from the back
abbrev pub GivesLastRun : RunWalk → Option (ℕ × ℕ) → RunWalk → Type 0
GivesLastRun old result new = YieldsLast (λ walk. walk.items) old result new × (new.low ≡ old.low)
    × Passes (old.high / 64 - new.high / 64) result old.steps new.steps
