-- What holds of a set in pieces and of two sets in pieces, for all values of any lengths and for any cuts.
use Rattle.std.specs.Prelude.{◌≡◌, ℕ, ◌+◌, ◌-◌, ◌<◌, Bool, IsTrue, ◌↔◌, if◌then◌else◌, List}
use Rattle.std.specs.Prelude.{◌∷◌, map, sum, sum_by, count_by, flat_map, slice_get, All}
use Rattle.std.specs.declared.option.Option.TheVariants.{None}
use Rattle.std.specs.List.{list_all, last_or}
use Rattle.fixedbitset.specs.Bits.{Bits, contains, empty, asc, minimum, maximum}
use Rattle.fixedbitset.specs.Parts.{slice}
use Rattle.fixedbitset.specs.Ranges.{contains_any}
use Rattle.bitlaws.specs.SetLaws.{size}
use Rattle.bitlaws.specs.Pieces.{AreCuts, pieces, put_together, ends, by_pieces, placed, lies_in, found}

-- the pieces put together are the set
abbrev pub PiecesAreTheSet : Type 0
PiecesAreTheSet = (v : Bits) (cuts : List ℕ) → AreCuts v 0 cuts → put_together (pieces v 0 cuts) ≡ v

-- any sets are the pieces of what they are when put together, cut where each of them ends
abbrev pub AnySetsArePieces : Type 0
AnySetsArePieces = (piece : Bits) (others : List Bits) → let whole = put_together (piece ∷ others) in
    AreCuts whole 0 (ends 0 piece others) × (pieces whole 0 (ends 0 piece others) ≡ piece ∷ others)

-- ---- two sets

-- the pieces of what two sets are joined to are their pieces joined
abbrev pub JoinsByPieces : (Bits → Bits → Bits) → Type 0
JoinsByPieces join = (v w : Bits) (cuts : List ℕ) → pieces (join v w) 0 cuts ≡ by_pieces join v w cuts

-- a count over two sets is the sum of those over their pieces
abbrev pub CountsByPieces : (Bits → Bits → ℕ) → Type 0
CountsByPieces count = (v w : Bits) (cuts : List ℕ) → AreCuts v 0 cuts → count v w ≡ sum (by_pieces count v w cuts)

-- a test of two sets is `true` exactly if it is of each two pieces
abbrev pub TestsByPieces : (Bits → Bits → Bool) → Type 0
TestsByPieces test =
    (v w : Bits) (cuts : List ℕ) → AreCuts v 0 cuts → test v w ≡ list_all (λ answer. answer) (by_pieces test v w cuts)

-- ---- one set

-- as many positions are set as in the pieces together
abbrev pub SizeByPieces : Type 0
SizeByPieces = (v : Bits) (cuts : List ℕ) → AreCuts v 0 cuts → size v ≡ sum_by size (pieces v 0 cuts)

-- each position below the length lies in exactly one piece
abbrev pub InOnePiece : Type 0
InOnePiece =
    (v : Bits) (cuts : List ℕ) (p : ℕ) → AreCuts v 0 cuts → p < v.length → count_by (lies_in p) (placed v cuts) ≡ 1

-- a position is set exactly if, less the start of the piece in which it lies, it is set in that piece
abbrev pub MembersByPieces : Type 0
MembersByPieces = (v : Bits) (cuts : List ℕ) (p : ℕ)
    → All (λ at. IsTrue (lies_in p at) → contains v p ≡ contains at.1 (p - at.0)) (placed v cuts)

-- a change of one position is made in the piece in which it lies, less the start of that piece; the others stay
abbrev pub ChangesByPieces : (Bits → ℕ → Bits) → Type 0
ChangesByPieces change = (v : Bits) (cuts : List ℕ) (p : ℕ) → AreCuts v 0 cuts → p < v.length
    → pieces (change v p) 0 cuts ≡ map (λ at. if lies_in p at then change at.1 (p - at.0) else at.1) (placed v cuts)

-- the positions in ascending order are those of the pieces, each moved up by the start of its piece
abbrev pub AscendingByPieces : Type 0
AscendingByPieces = (v : Bits) (cuts : List ℕ) → AreCuts v 0 cuts
    → asc v ≡ flat_map (λ at. map (λ p. at.0 + p) (asc at.1)) (placed v cuts)

-- the least position is that of the first piece that has one
abbrev pub MinimumByPieces : Type 0
MinimumByPieces = (v : Bits) (cuts : List ℕ) → AreCuts v 0 cuts → minimum v ≡ slice_get (found minimum v cuts) 0

-- the greatest position is that of the last piece that has one
abbrev pub MaximumByPieces : Type 0
MaximumByPieces = (v : Bits) (cuts : List ℕ) → AreCuts v 0 cuts → maximum v ≡ last_or None (found maximum v cuts)

-- ---- pieces that are missing

-- a slice is the empty set of its length exactly if none of its positions is set
abbrev pub MissingIsEmpty : Type 0
MissingIsEmpty =
    (v : Bits) (start end : ℕ) → (slice v start end ≡ empty (end - start)) ↔ (¬ (IsTrue (contains_any v start end)))

-- what f returns of a set before the empty set of its length, and behind it
abbrev pub WithNothing : {A : Type 0} → (Bits → Bits → A) → (before behind : Bits → A) → Type 0
WithNothing f before behind = (v : Bits) → (f v (empty v.length) ≡ before v) × (f (empty v.length) v ≡ behind v)
