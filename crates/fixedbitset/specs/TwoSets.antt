-- Two sets of any two lengths: their joins, the sizes of these, and what their positions have in common.
use Rattle.std.specs.Prelude.{ℕ, max, min, Bool, ◌==◌}
use Rattle.std.specs.FinSet as set
use Rattle.fixedbitset.specs.Numbers as numbers
use Rattle.fixedbitset.specs.Bits.{Bits, pair}

-- the greater length, and the positions of either
unfoldable pub union : Bits → Bits → Bits
union v w = pair (max v.length w.length) (set.union v.positions w.positions)

-- the greater length, and the positions of exactly one
unfoldable pub symmetric_difference : Bits → Bits → Bits
symmetric_difference v w = pair (max v.length w.length) (numbers.symmetric_difference v.positions w.positions)

-- the length of the first, and the positions of both
unfoldable pub intersection : Bits → Bits → Bits
intersection v w = pair v.length (set.intersection v.positions w.positions)

-- the length of the first, and its positions that the second lacks
unfoldable pub difference : Bits → Bits → Bits
difference v w = pair v.length (set.difference v.positions w.positions)

-- the smaller length, and the positions of both
unfoldable pub bitand : Bits → Bits → Bits
bitand v w = pair (min v.length w.length) (set.intersection v.positions w.positions)

-- ---- sizes

-- how many positions are in either
unfoldable pub union_count : Bits → Bits → ℕ
union_count v w = set.len (set.union v.positions w.positions)

-- how many positions are in both
unfoldable pub intersection_count : Bits → Bits → ℕ
intersection_count v w = set.len (set.intersection v.positions w.positions)

-- how many positions of the first the second lacks
unfoldable pub difference_count : Bits → Bits → ℕ
difference_count v w = set.len (set.difference v.positions w.positions)

-- how many positions are in exactly one
unfoldable pub symmetric_difference_count : Bits → Bits → ℕ
symmetric_difference_count v w = set.len (numbers.symmetric_difference v.positions w.positions)

-- ---- questions

-- each position of the first is one of the second, whatever the lengths
unfoldable pub is_subset : Bits → Bits → Bool
is_subset v w = set.is_subset v.positions w.positions

-- no position is in both
unfoldable pub is_disjoint : Bits → Bits → Bool
is_disjoint v w = intersection_count v w == 0
