-- A set in pieces, as it lies on several servers: cut at positions in ascending order.
use Rattle.std.specs.Prelude.{ℕ, ◌+◌, ◌≤◌, Bool, Option, option_map, List, [], ◌∷◌, map, zip, filter_map}
use Rattle.bitwords.specs.Rows.{in_range}
use Rattle.fixedbitset.specs.Bits.{Bits, empty}
use Rattle.fixedbitset.specs.Parts.{slice, append}

-- the cuts ascend from `start` to the length; between two equal ones lies an empty piece
abbrev pub AreCuts : Bits → ℕ → List ℕ → Type 0
AreCuts v start [] = start ≤ v.length
AreCuts v start (cut ∷ cuts) = (start ≤ cut) × AreCuts v cut cuts

-- the slices of v from `start` to the first cut, from each cut to the next, and from the last one to the length
abbrev pub pieces : Bits → ℕ → List ℕ → List Bits
pieces v start [] = slice v start v.length ∷ []
pieces v start (cut ∷ cuts) = slice v start cut ∷ pieces v cut cuts

-- the sets of a list, appended in order
abbrev pub put_together : List Bits → Bits
put_together [] = empty 0
put_together (piece ∷ others) = append piece (put_together others)

-- where each of the sets but the last ends, put together behind `start`
abbrev pub ends : ℕ → Bits → List Bits → List ℕ
ends start piece [] = []
ends start piece (next ∷ others) = (start + piece.length) ∷ ends (start + piece.length) next others

-- what f returns of the first pieces of two sets, of the second ones, and so on
abbrev pub by_pieces : {A : Type 0} → (Bits → Bits → A) → Bits → Bits → List ℕ → List A
by_pieces f v w cuts = map (λ both. f both.0 both.1) (zip (pieces v 0 cuts) (pieces w 0 cuts))

-- each piece behind the position at which it starts
abbrev pub placed : Bits → List ℕ → List (ℕ × Bits)
placed v cuts = zip (0 ∷ cuts) (pieces v 0 cuts)

-- the position lies in the piece
abbrev pub lies_in : ℕ → ℕ × Bits → Bool
lies_in p at = in_range at.0 (at.0 + at.1.length) p

-- the positions that f finds in the pieces, in order, each moved up by the start of its piece
abbrev pub found : (Bits → Option ℕ) → Bits → List ℕ → List ℕ
found f v cuts = filter_map (λ at. option_map (λ p. at.0 + p) (f at.1)) (placed v cuts)
