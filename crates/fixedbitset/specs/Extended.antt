-- What a run of items makes of a set, and what stops it.
use Rattle.std.specs.Prelude.{◌≡◌, ℕ, ◌+◌, ◌-◌, ◌^◌, ◌<◌, List, Option, Some, Result, MatchResult}
use Rattle.std.specs.List.{All}
use Rattle.std.specs.Iterator.{Drains, YieldsThen}
use Rattle.fixedbitset.specs.declared.extend.ExtendFault.{ExtendFault}
use Rattle.fixedbitset.specs.declared.extend.ExtendFault.TheVariants.{Position, Memory}
use Rattle.fixedbitset.specs.Bits.{Bits, add_all, words_needed}

-- the item is no position, or it needs more words than the set has
abbrev pub Stops : ExtendFault → Bits → ℕ → Type 0
Stops Position v item = item ≡ 2 ^ 64 - 1
Stops Memory v item = (item < 2 ^ 64 - 1) × (words_needed v.length < words_needed (item + 1))

-- the items taken from `it` are positions, and the new set is the old one with all of them added; at Ok no item came
-- next, and at Err one that stops the new set
pub record Extends {S R : Type 0} (gives : S → Option ℕ → S → Type 0) (it : S) (old new : Bits)
    (result : Result R ExtendFault) : Type 0 where
  pub taken : List ℕ
  pub positions : All (λ item. item < 2 ^ 64 - 1) taken
  pub added : new ≡ add_all old taken
  pub next : MatchResult result (λ _. Drains gives it taken)
      (λ fault. (item : ℕ) × (rest : S) × YieldsThen gives it taken (Some item) rest × Stops fault new item)
