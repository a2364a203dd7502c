-- No public clause cites this module.
-- Where the search for a free slot begins.
use Rattle.std.specs.Prelude.{ℕ, ◌<◌, IsTrue}
use Rattle.fixedbitset.specs.Bits.{Bits, contains}

-- each slot below `low` is taken
abbrev pub AreTakenBelow : Bits → ℕ → Type 0
AreTakenBelow taken low = (slot : ℕ) → slot < low → slot < taken.length → IsTrue (contains taken slot)
