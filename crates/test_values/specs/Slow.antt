-- What a reference value says of a set.
use Rattle.std.specs.Prelude.{◌≡◌, ℕ, ◌<◌, Bool, false, List, length}
use Rattle.std.specs.List.{slice_index_or}
use Rattle.fixedbitset.specs.Bits.{Bits, contains}

-- each of the first n positions is set as its flag is
abbrev pub HasPositionsTo : ℕ → Bits → List Bool → Type 0
HasPositionsTo n set flags = (p : ℕ) → p < n → contains set p ≡ slice_index_or flags p false

-- each position below the length is set as its flag is
abbrev pub HasPositions : Bits → List Bool → Type 0
HasPositions set flags = HasPositionsTo (length flags) set flags
