-- Equality and the order of values, said by lengths and positions, and the tests of both.
use Rattle.std.specs.Prelude.{◌≡◌, ℕ, ◌/◌, ◌<◌, ◌⊎◌, Bool, true, false, List, ◌∷◌, ◌++◌, bytes_eq}
use Rattle.std.specs.declared.cmp.Ordering.{Ordering}
use Rattle.std.specs.Ordering.{nat_cmp}
use Rattle.std.specs.Cmp.Lexicographic.{slice_cmp}
use Rattle.std.specs.Hash as fed
use Rattle.std.specs.Hash.{HashWrites}
use Rattle.fixedbitset.specs.Bits.{Bits, contains, words}

-- some position is in w and not in v, and the two agree on all earlier blocks of 64 positions, and
-- on the greater positions of its own stretch
abbrev pub Leads : Bits → Bits → Type 0
Leads w v = (at : ℕ) × (contains w at ≡ true) × (contains v at ≡ false)
    × ((p : ℕ) → (p / 64 < at / 64) ⊎ ((p / 64 ≡ at / 64) × (at < p)) → contains v p ≡ contains w p)

-- v comes before w: it is shorter, or of the same length and w leads
abbrev pub IsBelow : Bits → Bits → Type 0
IsBelow v w = (v.length < w.length) ⊎ ((v.length ≡ w.length) × Leads w v)

-- a list of numbers that tells values apart: the length, and then the words
unfoldable pub key : Bits → List ℕ
key v = v.length ∷ words v

-- whether two values are equal
unfoldable pub equal : Bits → Bits → Bool
equal v w = bytes_eq (key v) (key w)

-- which of two values comes first
unfoldable pub compare : Bits → Bits → Ordering
compare v w = slice_cmp nat_cmp (key v) (key w)

-- what a hasher is fed: the length, and then the words
unfoldable pub fed_by : Bits → HashWrites
fed_by v = fed.usize v.length ++ fed.slice fed.u64 (words v)
