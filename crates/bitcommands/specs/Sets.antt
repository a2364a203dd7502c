-- Sets by number.
use Rattle.std.specs.Prelude.{ℕ, List, slice_index_or}
use Rattle.fixedbitset.specs.Bits as model
use Rattle.fixedbitset.specs.Bits.{Bits}

-- the sets, by number
abbrev pub Sets : Type 0
Sets = List Bits

-- the set with this number (an empty one where there is none)
abbrev pub at : Sets → ℕ → Bits
at s k = slice_index_or s k (model.empty 0)
