-- What a set in pieces tells position by position: where a position lies, and the positions in ascending order.
use Rattle.std.proofs.Common.{◌≡◌, ℕ, zero, suc, ◌+◌, ◌-◌, ◌<◌, ◌≤◌, Bool, true, false, cond, not, nat_le}
use Rattle.std.proofs.Common.{IsTrue, Option, Some, None, option_map, List, [], ◌∷◌, ◌++◌, map, zip, filter_map}
use Rattle.std.proofs.Common.{flat_map, count_by, All, slice_get, refl, sym, ap, ◌∙◌, arith, ⊎_elim}
use Rattle.std.specs.List.{last_or, cons_option}
use Rattle.std.proofs.lemmas.Bool.{cases_Bool, lt-ltb, le-leb}
use Rattle.std.proofs.lemmas.Bool.Decides.{nat_tests}
use Rattle.std.proofs.lemmas.List.{append-nil}
use Rattle.std.proofs.lemmas.List.Elements.{All-nil, All-cons}
use Rattle.std.proofs.lemmas.List.Sums.{sum_by-cons}
use Rattle.std.proofs.lemmas.Option.{slice_get-map}
use Rattle.bitwords.specs.Rows.{in_range}
use Rattle.bitwords.specs.Ascending.{ascending}
use Rattle.bitwords.specs.AscendingFacts.{ascending-append, ascending-same}
use Rattle.bitwords.specs.CountFacts.{indicator}
use Rattle.fixedbitset.specs.Bits.{Bits, contains, insert, remove, set_bit, toggle, asc, minimum, maximum}
use Rattle.fixedbitset.specs.BitsFacts.{same_bits, length-set_bit, contains-set_bit}
use Rattle.fixedbitset.specs.Parts.{slice}
use Rattle.fixedbitset.specs.PartsFacts.{length-slice, contains-slice}
use Rattle.bitlaws.specs.Pieces.{AreCuts, pieces, placed, lies_in}
use Rattle.bitlaws.specs.PieceLaws.{InOnePiece, ChangesByPieces, AscendingByPieces, MinimumByPieces, MaximumByPieces}
use Rattle.bitlaws.proofs.OfPieces.{and_true, cuts_within}

-- the pieces from `start` on, each behind the position at which it starts
abbrev placed_from : Bits → ℕ → List ℕ → List (ℕ × Bits)
placed_from v start cuts = zip (start ∷ cuts) (pieces v start cuts)

-- ---- where a position lies

lies_in-slice : (v : Bits) (start end p : ℕ) → start ≤ end → lies_in p (start, slice v start end) ≡ in_range start end p
lies_in-slice v start end p order =
    let past : start + (slice v start end).length ≡ end = omega (arith, length-slice v start end) in
    ap (λ n. in_range start n p) past

-- one piece more: it has the position, or the others do
one_of : (start cut p : ℕ) → start ≤ cut
    → indicator (in_range start cut p) + indicator (nat_le cut p) ≡ indicator (nat_le start p)
one_of start cut p order = grind (arith, nat_tests)

places : (v : Bits) (start : ℕ) (cuts : List ℕ) (p : ℕ) → AreCuts v start cuts → p < v.length
    → count_by (lies_in p) (placed_from v start cuts) ≡ indicator (nat_le start p)
places v start [] p are below =
    let here = lies_in-slice v start v.length p are ∙ and_true (nat_le start p) _ (lt-ltb p v.length below) in
    omega (arith, sum_by-cons (λ at. indicator (lies_in p at)), ap indicator here)
places v start (cut ∷ cuts) p are below =
    let here = lies_in-slice v start cut p are.0 in
    omega (
      arith,
      sum_by-cons (λ at. indicator (lies_in p at)),
      ap indicator here,
      places v cut cuts p are.1 below,
      one_of start cut p are.0,
    )

pub in_one_piece : InOnePiece
in_one_piece v cuts p are below = places v 0 cuts p are below ∙ ap indicator (le-leb 0 p (omega arith))

-- a position that lies in a piece is set exactly if it is there
abbrev IsToldBy : Bits → ℕ → ℕ × Bits → Type 0
IsToldBy v p at = IsTrue (lies_in p at) → contains v p ≡ contains at.1 (p - at.0)

contains-within : (v : Bits) (start end p : ℕ) → start ≤ p → p < end
    → contains v p ≡ contains (slice v start end) (p - start)
contains-within v start end p from to =
    let at : start + (p - start) ≡ p = omega arith in
    simp (contains-slice, at) (grind (arith, nat_tests))

told_by_slice : (v : Bits) (start end p : ℕ) → IsToldBy v p (start, slice v start end)
told_by_slice v start end p lies = grind (arith, nat_tests, contains-within v start end p, length-slice v start end)

pub members : (v : Bits) (start : ℕ) (cuts : List ℕ) (p : ℕ) → All (IsToldBy v p) (placed_from v start cuts)
members v start [] p =
    All-cons (IsToldBy v p) (start, slice v start v.length) [] (told_by_slice v start v.length p)
    (All-nil (IsToldBy v p))
members v start (cut ∷ cuts) p =
    All-cons (IsToldBy v p) (start, slice v start cut) (placed_from v cut cuts) (told_by_slice v start cut p)
    (members v cut cuts p)

-- ---- a change of one position

module _ (v : Bits) (start end p : ℕ) (on : Bool) (below : p < v.length) where
  slice-changed : start ≤ p → p < end → slice (set_bit v p on) start end ≡ set_bit (slice v start end) (p - start) on
  slice-changed from to =
      let within : p - start < (slice v start end).length = omega (arith, length-slice v start end) in
      same_bits _ _ (simp (length-slice, length-set_bit))
      (λ q. simp (contains-slice, contains-set_bit) (grind (arith, nat_tests)))

  slice-kept : in_range start end p ≡ false → slice (set_bit v p on) start end ≡ slice v start end
  slice-kept out =
      same_bits _ _ (simp length-slice) (λ q. simp (contains-slice, contains-set_bit) (grind (arith, nat_tests)))

-- a change that sets a position to what the slices in which it lies tell too
pub record IsChange (change : Bits → ℕ → Bits) (on : Bits → ℕ → Bool) : Type 0 where
  pub sets : (v : Bits) (p : ℕ) → change v p ≡ set_bit v p (on v p)
  pub told : (v : Bits) (start end p : ℕ) → start ≤ p → p < end → on v p ≡ on (slice v start end) (p - start)

pub of_insert : IsChange insert (λ v p. true)
unfolding set_bit
of_insert = record { sets = λ v p. refl; told = λ v start end p from to. refl }

pub of_remove : IsChange remove (λ v p. false)
unfolding set_bit
of_remove = record { sets = λ v p. refl; told = λ v start end p from to. refl }

pub of_toggle : IsChange toggle (λ v p. not (contains v p))
unfolding toggle
of_toggle =
    record { sets = λ v p. refl; told = λ v start end p from to. ap not (contains-within v start end p from to) }

module _ {change : Bits → ℕ → Bits} {on : Bits → ℕ → Bool} (law : IsChange change on) where
  piece-changed : (v : Bits) (start end p : ℕ) → p < v.length → start ≤ end
      → slice (change v p) start end
      ≡ cond (lies_in p (start, slice v start end)) (change (slice v start end) (p - start)) (slice v start end)
  piece-changed v start end p below order =
      let lies = lies_in-slice v start end p order in
      let sets = law.sets v p in
      ⊎_elim
      (λ (one : in_range start end p ≡ true).
      let from : start ≤ p = grind (arith, nat_tests) in
      let to : p < end = grind (arith, nat_tests) in
      rw (lies, one, sets, law.sets (slice v start end) (p - start), ← law.told v start end p from to)
      (slice-changed v start end p (on v p) below from to))
      (λ (out : in_range start end p ≡ false). rw (lies, out, sets) (slice-kept v start end p (on v p) below out))
      (cases_Bool (in_range start end p))

  changed : (v : Bits) (start : ℕ) (cuts : List ℕ) (p : ℕ) → AreCuts v start cuts → p < v.length
      → pieces (change v p) start cuts ≡ map (λ at. cond (lies_in p at) (change at.1 (p - at.0)) at.1)
      (placed_from v start cuts)
  changed v start [] p are below =
      let long : (change v p).length ≡ v.length = rw law.sets (length-set_bit v p (on v p)) in
      ap (λ n. slice (change v p) start n ∷ []) long ∙ ap (λ u. u ∷ []) (piece-changed v start v.length p below are)
  changed v start (cut ∷ cuts) p are below =
      let first = piece-changed v start cut p below are.0 in
      let others = changed v cut cuts p are.1 below in
      λ i. first i ∷ others i

  pub changes_by_pieces : ChangesByPieces change
  changes_by_pieces v cuts p are below = changed v 0 cuts p are below

-- ---- in ascending order

-- the numbers that pass, moved up
moved : (test : ℕ → Bool) (by low n : ℕ)
    → map (λ p. by + p) (ascending (λ i. test (by + i)) low n) ≡ ascending test (by + low) n
moved test by low zero = refl
moved test by low (suc n) =
    let next : by + (low + 1) ≡ by + low + 1 = omega arith in
    let others = rw next at (moved test by (low + 1) n) in
    grind (arith, others)

-- the positions of a piece, moved up by its start
abbrev moved_up : ℕ × Bits → List ℕ
moved_up at = map (λ p. at.0 + p) (asc at.1)

moved_up-slice : (v : Bits) (start end : ℕ)
    → moved_up (start, slice v start end) ≡ ascending (contains v) start (end - start)
unfolding asc
moved_up-slice v start end =
    let part = slice v start end in
    let kept = ascending-same (contains part) (λ i. contains v (start + i)) 0 (end - start)
    (λ i from to. contains-slice v start end i ∙ and_true _ _ (lt-ltb i (end - start) (omega arith))) in
    let first : start + 0 ≡ start = omega arith in
    simp (length-slice, kept) (rw first at (moved (contains v) start 0 (end - start)))

in_order : (v : Bits) (start : ℕ) (cuts : List ℕ) → AreCuts v start cuts
    → flat_map moved_up (placed_from v start cuts) ≡ ascending (contains v) start (v.length - start)
in_order v start [] are = append-nil (moved_up (start, slice v start v.length)) ∙ moved_up-slice v start v.length
in_order v start (cut ∷ cuts) are =
    let first : start ≤ cut = are.0 in
    let within : cut ≤ v.length = cuts_within v cut cuts are.1 in
    let at : start + (cut - start) ≡ cut = omega arith in
    let both : (cut - start) + (v.length - cut) ≡ v.length - start = omega arith in
    (λ i. moved_up-slice v start cut i ++ in_order v cut cuts are.1 i) ∙ rw (← both, ascending-append, at) refl

pub ascending_by_pieces : AscendingByPieces
unfolding asc
ascending_by_pieces v cuts are = let whole : v.length ≡ v.length - 0 = omega arith in
    ap (ascending (contains v) 0) whole ∙ sym (in_order v 0 cuts are)

-- ---- the first and the last

-- the first item of lists in a row is that of the first list that has one
first_of : (items : ℕ × Bits → List ℕ) (first : ℕ × Bits → Option ℕ)
    → ((at : ℕ × Bits) → slice_get (items at) 0 ≡ first at)
    → (row : List (ℕ × Bits)) → slice_get (flat_map items row) 0 ≡ slice_get (filter_map first row) 0
first_of items first is [] = refl
first_of items first is (at ∷ row) =
    by_items (items at) (flat_map items row) (filter_map first row) (first_of items first is row)
    ∙ ap (λ o. slice_get (cons_option o (filter_map first row)) 0) (is at)
  where
    by_items : (xs others rest : List ℕ) → slice_get others 0 ≡ slice_get rest 0
        → slice_get (xs ++ others) 0 ≡ slice_get (cons_option (slice_get xs 0) rest) 0
    by_items [] others rest same = same
    by_items (x ∷ xs) others rest same = refl

-- and the last that of the last list that has one
last_of : (items : ℕ × Bits → List ℕ) (last : ℕ × Bits → Option ℕ)
    → ((at : ℕ × Bits) → last_or None (items at) ≡ last at)
    → (row : List (ℕ × Bits)) (o : Option ℕ) → last_or o (flat_map items row) ≡ last_or o (filter_map last row)
last_of items last is [] o = refl
last_of items last is (at ∷ row) o =
    by_items (items at) (flat_map items row) (filter_map last row) o (last_of items last is row)
    ∙ ap (λ q. last_or o (cons_option q (filter_map last row))) (is at)
  where
    behind_one : (x : ℕ) (xs others rest : List ℕ) (o : Option ℕ) → ((q : Option ℕ) → last_or q others ≡ last_or q rest)
        → last_or (Some x) (xs ++ others) ≡ last_or o (cons_option (last_or (Some x) xs) rest)
    behind_one x [] others rest o same = same (Some x)
    behind_one x (y ∷ ys) others rest o same = behind_one y ys others rest o same

    by_items : (xs others rest : List ℕ) (o : Option ℕ) → ((q : Option ℕ) → last_or q others ≡ last_or q rest)
        → last_or o (xs ++ others) ≡ last_or o (cons_option (last_or None xs) rest)
    by_items [] others rest o same = same o
    by_items (x ∷ xs) others rest o same = behind_one x xs others rest o same

last-map : (f : ℕ → ℕ) (xs : List ℕ) (o : Option ℕ) → last_or (option_map f o) (map f xs) ≡ option_map f (last_or o xs)
last-map f [] o = refl
last-map f (x ∷ xs) o = last-map f xs (Some x)

pub minimum_by_pieces : MinimumByPieces
unfolding minimum
minimum_by_pieces v cuts are =
    ap (λ xs. slice_get xs 0) (ascending_by_pieces v cuts are)
    ∙ first_of moved_up (λ at. option_map (λ p. at.0 + p) (minimum at.1))
    (λ at. slice_get-map (λ p. at.0 + p) (asc at.1) 0) (placed v cuts)

pub maximum_by_pieces : MaximumByPieces
unfolding maximum
maximum_by_pieces v cuts are =
    ap (last_or None) (ascending_by_pieces v cuts are)
    ∙ last_of moved_up (λ at. option_map (λ p. at.0 + p) (maximum at.1))
    (λ at. last-map (λ p. at.0 + p) (asc at.1) None) (placed v cuts) None
