-- The laws of a set in pieces are proved: for two slices that meet, and then for any cuts; and what joins, counts and
-- questions answer of a piece in which nothing is set.
use Rattle.std.proofs.Common.{zero-add, ◌≡◌, ℕ, ◌+◌, ◌-◌, ◌≤◌, max, Bool, true, false, not, ◌&&◌, ◌||◌}
use Rattle.std.proofs.Common.{◌==◌, List, [], ◌∷◌, map, sum, sum_by, zip, refl, sym, ap, ◌∙◌, arith, ◌<◌}
use Rattle.std.specs.Cmp.{nat_cmp_total}
use Rattle.std.specs.FinSet as set
use Rattle.std.specs.List.{list_all}
use Rattle.std.proofs.lemmas.Bool.{lt-ltb}
use Rattle.std.proofs.lemmas.Bool.Decides.{nat_tests}
use Rattle.std.proofs.lemmas.List.Sums.{sum_by-cons}
use Rattle.std.proofs.lemmas.List.Folds.{sum_by-zero, list_all-map}
use Rattle.bitlanes.specs.Bits.{either}
use Rattle.bitwords.specs.Rows.{count_below}
use Rattle.bitwords.specs.CountFacts.{count-zero, count-same, count-append}
use Rattle.fixedbitset.specs.Bits.{Bits, contains, empty, is_clear}
use Rattle.fixedbitset.specs.BitsFacts.{same_bits, contains_below, contains-past, length-empty, contains-empty}
use Rattle.fixedbitset.specs.NumbersFacts as numbers
use Rattle.fixedbitset.specs.NumbersFacts.{same_set, same_truth, len-below}
use Rattle.fixedbitset.specs.MemberFacts.{is_clear-tells}
use Rattle.fixedbitset.specs.Parts.{slice, append}
use Rattle.fixedbitset.specs.PartsFacts.{length-slice, contains-slice, length-append, contains-append}
use Rattle.fixedbitset.specs.SizeFacts.{count_ones-all, is_clear-counts, count_ones-empty}
use Rattle.fixedbitset.specs.TwoSets.{union, intersection, difference, symmetric_difference}
use Rattle.fixedbitset.specs.TwoSets.{union_count, intersection_count, difference_count}
use Rattle.fixedbitset.specs.TwoSets.{symmetric_difference_count, is_subset, is_disjoint}
use Rattle.fixedbitset.specs.TwoSetsFacts.{length-union, length-intersection, length-difference}
use Rattle.fixedbitset.specs.TwoSetsFacts.{length-symmetric_difference, contains-union, contains-intersection}
use Rattle.fixedbitset.specs.TwoSetsFacts.{contains-difference, contains-symmetric_difference, is_subset-tells}
use Rattle.bitlaws.specs.SetLaws.{size}
use Rattle.bitlaws.specs.Pieces.{AreCuts, pieces, put_together, ends}
use Rattle.bitlaws.specs.PieceLaws.{PiecesAreTheSet, AnySetsArePieces, JoinsByPieces, CountsByPieces}
use Rattle.bitlaws.specs.PieceLaws.{TestsByPieces, SizeByPieces, MissingIsEmpty, WithNothing}
use Rattle.fixedbitset.specs.Ranges.{count_ones}
use Rattle.fixedbitset.specs.RangesFacts.{contains_any-tells}
use Rattle.bitlaws.proofs.OfJoins.{lengths, members}

-- ---- slices

pub and_true : (a b : Bool) → b ≡ true → (a && b) ≡ a
and_true a b f = grind arith

-- of a slice up to the length
contains-rest : (v : Bits) (start p : ℕ) → contains (slice v start v.length) p ≡ contains v (start + p)
contains-rest v start p = simp contains-slice (grind (arith, nat_tests, contains_below v (start + p)))

slice-whole : (v : Bits) → slice v 0 v.length ≡ v
slice-whole v = same_bits _ _ (simp length-slice (omega arith)) (λ p. simp (contains-rest, zero-add))

append-nothing : (v : Bits) → append v (empty 0) ≡ v
append-nothing v =
    same_bits _ _ (simp (length-append, length-empty) (omega arith))
    (λ p. simp (contains-append, contains-empty, length-empty) (grind (arith, nat_tests, contains_below v p)))

-- two slices that meet, appended
append-slices : (v : Bits) (start cut end : ℕ) → start ≤ cut → cut ≤ end
    → append (slice v start cut) (slice v cut end) ≡ slice v start end
append-slices v start cut end first second =
    same_bits _ _ (simp (length-append, length-slice) (omega arith)) (λ p.
    let at : cut - start ≤ p → cut + (p - (cut - start)) ≡ start + p = λ more. omega arith in
    simp (contains-append, contains-slice, length-slice) (grind (arith, nat_tests)))

-- ---- put together

-- what is cut starts within the set
pub cuts_within : (v : Bits) (start : ℕ) (cuts : List ℕ) → AreCuts v start cuts → start ≤ v.length
cuts_within v start [] are = are
cuts_within v start (cut ∷ cuts) are =
    let within = cuts_within v cut cuts are.1 in let first : start ≤ cut = are.0 in omega arith

together : (v : Bits) (start : ℕ) (cuts : List ℕ) → AreCuts v start cuts
    → put_together (pieces v start cuts) ≡ slice v start v.length
together v start [] are = append-nothing (slice v start v.length)
together v start (cut ∷ cuts) are =
    ap (append (slice v start cut)) (together v cut cuts are.1)
    ∙ append-slices v start cut v.length are.0 (cuts_within v cut cuts are.1)

pub pieces_are_the_set : PiecesAreTheSet
pieces_are_the_set v cuts are = together v 0 cuts are ∙ slice-whole v

-- ---- any sets put together

contains-append_high : (v w : Bits) (p : ℕ) → contains (append v w) (v.length + p) ≡ contains w p
contains-append_high v w p =
    let at : (v.length + p) - v.length ≡ p = omega arith in
    simp (contains-append, at) (grind (arith, nat_tests, contains-past v (v.length + p), contains_below w p))

-- where the part of u behind `start` is what the sets make, they are its pieces
are_pieces : (u : Bits) (start : ℕ) (piece : Bits) (others : List Bits)
    → u.length ≡ start + (put_together (piece ∷ others)).length
    → ((p : ℕ) → contains u (start + p) ≡ contains (put_together (piece ∷ others)) p)
    → AreCuts u start (ends start piece others) × (pieces u start (ends start piece others) ≡ piece ∷ others)
are_pieces u start piece [] long same =
    let alone = append-nothing piece in
    let length : (append piece (empty 0)).length ≡ piece.length = ap (λ v. v.length) alone in (
      omega arith,
      ap (λ v. v ∷ []) (same_bits _ _ (length-slice u start u.length ∙ omega arith)
          (λ p. contains-rest u start p ∙ same p ∙ ap (λ v. contains v p) alone)),
    )
are_pieces u start piece (next ∷ others) long same =
    let rest = put_together (next ∷ others) in
    let cut : ℕ = start + piece.length in
    let further : u.length ≡ cut + rest.length = omega (arith, long, length-append piece rest) in
    let first : slice u start cut ≡ piece = same_bits _ _ (length-slice u start cut ∙ omega arith) (λ p.
    simp contains-slice (grind (arith, nat_tests, same p, contains-append piece rest p, contains-past piece p))) in
    let later = are_pieces u cut next others further (λ p.
    let at : cut + p ≡ start + (piece.length + p) = omega arith in
    ap (contains u) at ∙ same (piece.length + p) ∙ contains-append_high piece rest p) in
    ((omega arith, later.0), λ i. first i ∷ later.1 i)

pub any_sets_are_pieces : AnySetsArePieces
any_sets_are_pieces piece others =
    are_pieces (put_together (piece ∷ others)) 0 piece others (omega arith) (λ p. let at : 0 + p ≡ p = omega arith in
    ap (contains (put_together (piece ∷ others))) at)

-- ---- joins

-- what a join makes of the members of two sets and of their lengths
pub record IsJoin (join : Bits → Bits → Bits) (f : Bool → Bool → Bool) (long : ℕ → ℕ → ℕ) : Type 0 where
  pub members : (v w : Bits) (p : ℕ) → contains (join v w) p ≡ f (contains v p) (contains w p)
  pub neither : f false false ≡ false
  pub lengths : (v w : Bits) → (join v w).length ≡ long v.length w.length
  pub alike : (n : ℕ) → long n n ≡ n
  pub less : (n m by : ℕ) → long (n - by) (m - by) ≡ long n m - by
  pub longer : (n m : ℕ) → n ≤ long n m

module _ {join : Bits → Bits → Bits} {f : Bool → Bool → Bool} {long : ℕ → ℕ → ℕ} (law : IsJoin join f long) where
  both_kept : (a b l : Bool) → (f a b && l) ≡ f (a && l) (b && l)
  both_kept a b l = grind (arith, law.neither)

  slice-join : (v w : Bits) (start end : ℕ) → slice (join v w) start end ≡ join (slice v start end) (slice w start end)
  slice-join v w start end =
      same_bits _ _ (simp (length-slice, law.lengths, law.alike)) (λ p. simp (contains-slice, law.members, both_kept))

  rest-join : (v w : Bits) (start : ℕ)
      → slice (join v w) start (join v w).length ≡ join (slice v start v.length) (slice w start w.length)
  rest-join v w start =
      same_bits _ _ (simp (length-slice, law.lengths, law.less)) (λ p. simp (contains-rest, law.members))

  pieces-join : (v w : Bits) (start : ℕ) (cuts : List ℕ)
      → pieces (join v w) start cuts
      ≡ map (λ both. join both.0 both.1) (zip (pieces v start cuts) (pieces w start cuts))
  pieces-join v w start [] = ap (λ u. u ∷ []) (rest-join v w start)
  pieces-join v w start (cut ∷ cuts) =
      let first = slice-join v w start cut in let others = pieces-join v w cut cuts in λ i. first i ∷ others i

  pub joins_by_pieces : JoinsByPieces join
  joins_by_pieces v w cuts = pieces-join v w 0 cuts

pub of_union : IsJoin union (λ a b. a || b) max
of_union =
    record {
      members = contains-union;
      neither = refl;
      lengths = length-union;
      alike = λ n. omega arith;
      less = λ n m by. omega arith;
      longer = λ n m. omega arith;
    }

pub of_symmetric_difference : IsJoin symmetric_difference either max
of_symmetric_difference =
    record {
      members = contains-symmetric_difference;
      neither = refl;
      lengths = length-symmetric_difference;
      alike = λ n. omega arith;
      less = λ n m by. omega arith;
      longer = λ n m. omega arith;
    }

pub of_intersection : IsJoin intersection (λ a b. a && b) (λ n m. n)
of_intersection =
    record {
      members = contains-intersection;
      neither = refl;
      lengths = length-intersection;
      alike = λ n. refl;
      less = λ n m by. refl;
      longer = λ n m. omega arith;
    }

pub of_difference : IsJoin difference (λ a b. a && not b) (λ n m. n)
of_difference =
    record {
      members = contains-difference;
      neither = refl;
      lengths = length-difference;
      alike = λ n. refl;
      less = λ n m by. refl;
      longer = λ n m. omega arith;
    }

-- ---- counts

-- as many positions are set as numbers below the length pass
size-count : (v : Bits) → size v ≡ count_below (contains v) v.length
unfolding contains
size-count v = count_ones-all v ∙ len-below v.length v.positions (contains_below v)

size-slice : (v : Bits) (start end : ℕ) → start ≤ end
    → size (slice v start end) + count_below (contains v) start ≡ count_below (contains v) end
size-slice v start end order =
    let part = slice v start end in
    let whole : end ≡ start + (end - start) = omega arith in
    let same = count-same (contains part) (λ p. contains v (start + p)) (end - start)
    (λ p below. contains-slice v start end p ∙ and_true _ _ (lt-ltb _ _ below)) in
    let long = ap (count_below (contains part)) (length-slice v start end) in
    omega (
      arith,
      size-count part,
      long,
      same,
      count-append (contains v) start (end - start),
      ap (count_below (contains v)) whole,
    )

sizes : (v : Bits) (start : ℕ) (cuts : List ℕ) → AreCuts v start cuts
    → sum_by size (pieces v start cuts) + count_below (contains v) start ≡ count_below (contains v) v.length
sizes v start [] are = omega (arith, sum_by-cons size, size-slice v start v.length are)
sizes v start (cut ∷ cuts) are = omega (arith, sum_by-cons size, size-slice v start cut are.0, sizes v cut cuts are.1)

pub size_by_pieces : SizeByPieces
size_by_pieces v cuts are = omega (arith, size-count v, sizes v 0 cuts are, count-zero (contains v))

-- cuts of a set are cuts of a longer one
cuts_of_longer : (v w : Bits) (start : ℕ) (cuts : List ℕ) → v.length ≤ w.length → AreCuts v start cuts
    → AreCuts w start cuts
cuts_of_longer v w start [] long are = omega arith
cuts_of_longer v w start (cut ∷ cuts) long are = (are.0, cuts_of_longer v w cut cuts long are.1)

module _ {join : Bits → Bits → Bits} {f : Bool → Bool → Bool} {long : ℕ → ℕ → ℕ} (law : IsJoin join f long) where
  joined_cuts : (v w : Bits) (cuts : List ℕ) → AreCuts v 0 cuts → AreCuts (join v w) 0 cuts
  joined_cuts v w cuts are =
      cuts_of_longer v (join v w) 0 cuts (omega (arith, law.lengths v w, law.longer v.length w.length)) are

  -- where a count is that of the positions of a join
  module _ {count : Bits → Bits → ℕ} (is : (v w : Bits) → count v w ≡ size (join v w)) where
    totals : (pairs : List (Bits × Bits))
        → sum_by size (map (λ both. join both.0 both.1) pairs) ≡ sum (map (λ both. count both.0 both.1) pairs)
    totals [] = refl
    totals (pair ∷ pairs) = omega (arith, sum_by-cons size, sum_by-cons (λ n. n), is pair.0 pair.1, totals pairs)

    pub counts_by_pieces : CountsByPieces count
    counts_by_pieces v w cuts are =
        is v w
        ∙ size_by_pieces (join v w) cuts (joined_cuts v w cuts are)
        ∙ ap (sum_by size) (pieces-join law v w 0 cuts)
        ∙ totals (zip (pieces v 0 cuts) (pieces w 0 cuts))

  -- where a question asks whether a join has no position
  module _ {test : Bits → Bits → Bool} (is : (v w : Bits) → test v w ≡ is_clear (join v w)) where
    pub tests_by_pieces : TestsByPieces test
    tests_by_pieces v w cuts are =
        is v w
        ∙ is_clear-counts (join v w)
        ∙ ap (λ n. n == 0) (size_by_pieces (join v w) cuts (joined_cuts v w cuts are))
        ∙ sum_by-zero size (pieces (join v w) 0 cuts)
        ∙ ap (list_all (λ piece. size piece == 0)) (pieces-join law v w 0 cuts)
        ∙ simp (list_all-map, is, is_clear-counts)

-- ---- the counts and the questions of joins

pub union-size : (v w : Bits) → union_count v w ≡ size (union v w)
unfolding union_count contains
union-size v w =
    sym (count_ones-all (union v w)
    ∙ ap set.len
    (same_set _ _ (λ p. contains-union v w p ∙ sym (set.contains-union nat_cmp_total v.positions w.positions p))))

pub intersection-size : (v w : Bits) → intersection_count v w ≡ size (intersection v w)
unfolding intersection_count contains
intersection-size v w =
    sym (count_ones-all (intersection v w)
    ∙ ap set.len (same_set _ _
    (λ p. contains-intersection v w p ∙ sym (set.contains-intersection nat_cmp_total v.positions w.positions p))))

pub difference-size : (v w : Bits) → difference_count v w ≡ size (difference v w)
unfolding difference_count contains
difference-size v w =
    sym (count_ones-all (difference v w)
    ∙ ap set.len (same_set _ _
    (λ p. contains-difference v w p ∙ sym (set.contains-difference nat_cmp_total v.positions w.positions p))))

pub symmetric_difference-size : (v w : Bits) → symmetric_difference_count v w ≡ size (symmetric_difference v w)
unfolding symmetric_difference_count contains
symmetric_difference-size v w =
    sym (count_ones-all (symmetric_difference v w)
    ∙ ap
    set.len (same_set _ _ (λ p. contains-symmetric_difference v w p
    ∙ sym (numbers.contains-symmetric_difference v.positions w.positions p))))

pub subset-clear : (v w : Bits) → is_subset v w ≡ is_clear (difference v w)
subset-clear v w = same_truth _ _
    (λ (all : is_subset v w ≡ true).
    (is_clear-tells (difference v w)).1 (λ p. simp contains-difference (grind (arith, (is_subset-tells v w).0 all p))))
    (λ none.
    (is_subset-tells v w).1
    (λ p one. grind (arith, contains-difference v w p, (is_clear-tells (difference v w)).0 none p)))

pub disjoint-clear : (v w : Bits) → is_disjoint v w ≡ is_clear (intersection v w)
unfolding is_disjoint
disjoint-clear v w = ap (λ n. n == 0) (intersection-size v w) ∙ sym (is_clear-counts (intersection v w))

pub missing_is_empty : MissingIsEmpty
missing_is_empty v start end = (
  λ same some.
      let one = (contains_any-tells v start end).0 some in
      let at : start + (one.0 - start) ≡ one.0 = omega (arith, one.1) in
      let clear : contains (slice v start end) (one.0 - start) ≡ false =
      rw same (contains-empty (end - start) (one.0 - start)) in
      grind (arith, nat_tests, one.1, one.2, one.3, contains-slice v start end (one.0 - start)),
  λ none. same_bits _ _ (simp (length-slice, length-empty)) (λ p.
      let out : p < end - start → ¬ (contains v (start + p) ≡ true) = λ below one.
      none ((contains_any-tells v start end).1 (start + p, omega arith, omega arith, one)) in
      simp (contains-slice, contains-empty) (grind (arith, nat_tests))),
)

-- ---- joins

pub union_with_nothing : WithNothing union (λ v. v) (λ v. v)
union_with_nothing v = (
  same_bits _ _ (simp lengths (omega arith)) (λ p. simp members (grind arith)),
  same_bits _ _ (simp lengths (omega arith)) (λ p. simp members (grind arith)),
)

pub symmetric_difference_with_nothing : WithNothing symmetric_difference (λ v. v) (λ v. v)
symmetric_difference_with_nothing v = (
  same_bits _ _ (simp lengths (omega arith)) (λ p. simp members (grind arith)),
  same_bits _ _ (simp lengths (omega arith)) (λ p. simp members (grind arith)),
)

pub intersection_with_nothing : WithNothing intersection (λ v. empty v.length) (λ v. empty v.length)
intersection_with_nothing v = (
  same_bits _ _ (simp lengths) (λ p. simp members (grind arith)),
  same_bits _ _ (simp lengths) (λ p. simp members (grind arith)),
)

pub difference_with_nothing : WithNothing difference (λ v. v) (λ v. empty v.length)
difference_with_nothing v = (
  same_bits _ _ (simp lengths) (λ p. simp members (grind arith)),
  same_bits _ _ (simp lengths) (λ p. simp members (grind arith)),
)

-- ---- counts and questions

pub size-empty : (n : ℕ) → size (empty n) ≡ 0
size-empty n = ap (count_ones (empty n) 0) (length-empty n) ∙ count_ones-empty n

pub is_clear-empty : (n : ℕ) → is_clear (empty n) ≡ true
is_clear-empty n = (is_clear-tells (empty n)).1 (contains-empty n)
