-- What holds of rank and select, for all values.
use Rattle.std.specs.Prelude.{◌≡◌, ℕ, ◌≤◌, true, Some, None, ◌↔◌}
use Rattle.std.specs.FinSet as set
use Rattle.fixedbitset.specs.Bits.{Bits, contains}
use Rattle.bitranks.specs.Ranks.{rank, select}

-- below the k-th position k positions are set
abbrev pub RankOfSelect : Type 0
RankOfSelect = (v : Bits) (k p : ℕ) → select v k ≡ Some p → rank v p ≡ k

-- a position that is set is the one with so many below it
abbrev pub SelectOfRank : Type 0
SelectOfRank = (v : Bits) (p : ℕ) → contains v p ≡ true → select v (rank v p) ≡ Some p

-- there is no k-th position exactly if the set has k positions at most
abbrev pub SelectEnds : Type 0
SelectEnds = (v : Bits) (k : ℕ) → (select v k ≡ None) ↔ (set.len v.positions ≤ k)

-- the rank grows with the position
abbrev pub RankGrows : Type 0
RankGrows = (v : Bits) (p q : ℕ) → p ≤ q → rank v p ≤ rank v q

-- from the length on it is how many positions are set
abbrev pub RankIsSize : Type 0
RankIsSize = (v : Bits) (p : ℕ) → v.length ≤ p → rank v p ≡ set.len v.positions
