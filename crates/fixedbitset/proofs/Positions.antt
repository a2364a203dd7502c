-- The positions of a value, as those of its words and of the words in which a set keeps it, and the walks over them.
use Rattle.std.proofs.Common.{◌≡◌, ℕ, zero, suc, Bool, IsTrue, take, filter, ◌+◌, ◌-◌, ◌*◌, ◌/◌, ◌%◌, ◌^◌}
use Rattle.std.proofs.Common.{◌<◌, ◌≤◌, max, not, ◌&&◌, List, ◌++◌, length, map, get_or, slice_get}
use Rattle.std.proofs.Common.{Option, Some, None, is_some, true, false, refl, sym, ap, ◌∙◌, arith, ⊎_elim}
use Rattle.std.specs.Int.{bit_not, w64, div_ceil}
use Rattle.std.specs.List.{last_or}
use Rattle.std.proofs.Math.Pow.{pow_pos}
use Rattle.std.proofs.lemmas.Bool.{cases_lt, false_from_ne_true, true≢false}
use Rattle.std.proofs.lemmas.Bool.Decides.{nat_tests, same_from_decides}
use Rattle.std.proofs.lemmas.List.{get_or-map, get_or_past, take_all, length-append}
use Rattle.bitlanes.specs.BitLaws.{bit-not}
use Rattle.bitlanes.specs.Ops.{IsWordOp}
use Rattle.bitwords.specs.Ascending.{ascending}
use Rattle.bitwords.specs.AscendingFacts.{ascending-same, ascending-skip, ascending-cut, filter-ascending, length-count}
use Rattle.bitwords.specs.BesideFacts.{length-beside, get_or-beside, has_bit-beside}
use Rattle.bitwords.specs.CountFacts.{count-zero, count-suc, count-shorter}
use Rattle.bitwords.specs.Rows.{has_bit, count_below}
use Rattle.bitwords.specs.RowFacts.{AreWords}
use Rattle.bitwords.specs.Walk.{between_ends, over_row, range_cut}
use Rattle.bitwords.specs.WalkedWords.{beside}
use Rattle.bitwalks.specs.Pairs.{Sieved, sieve_over}
use Rattle.fixedbitset.specs.Ranges.{is_valid, within}
use Rattle.fixedbitset.specs.RangesFacts.{length-within, contains-within}
use Rattle.fixedbitset.specs.Walks.{begun, ones_of, zeroes_of}
use Rattle.fixedbitset.specs.Bits.{Bits, contains, asc, minimum, maximum, complement}
use Rattle.fixedbitset.specs.Bits.{is_clear, words, words_needed, of_words}
use Rattle.fixedbitset.specs.BitsFacts.{length-complement, contains-complement, contains-past}
use Rattle.fixedbitset.specs.FirstFacts.{minimum_least, minimum_none}
use Rattle.fixedbitset.specs.MemberFacts.{is_clear-tells}
use Rattle.fixedbitset.specs.Stored.{IsClean}
use Rattle.fixedbitset.specs.TwoSets.{intersection, difference, is_disjoint}
use Rattle.fixedbitset.specs.TwoSetsFacts.{length-intersection, contains-intersection, is_disjoint-tells}
use Rattle.fixedbitset.specs.TwoSetsFacts.{length-difference, contains-difference}
use Rattle.fixedbitset.specs.WalkFacts.{length-asc}
use Rattle.fixedbitset.specs.WordsFacts.{length-words, has_bit-words, are_words, words_is, words-asc}
use Rattle.fixedbitset.proofs.Words.{valid_range, contains_word, holds_all}

-- ---- the positions of a value

-- a bit of an inverted word
has_bit-inverted : (ws : List ℕ) (p : ℕ) → AreWords ws → p < 64 * length ws
    → has_bit (map (bit_not w64) ws) p ≡ not (has_bit ws p)
unfolding has_bit
has_bit-inverted ws p are below =
    rw (get_or-map (bit_not w64) ws (p / 64) 0 0 (omega arith))
    (bit-not (get_or ws (p / 64) 0) (p % 64) (are (p / 64)) (omega arith))

-- those that pass a test that says what the value has, below a bound that leaves room for all
pub row-asc : (v : Bits) (test : ℕ → Bool) (n : ℕ) → v.length ≤ n → ((p : ℕ) → test p ≡ contains v p)
    → ascending test 0 n ≡ asc v
unfolding asc
row-asc v test n room same =
    let whole : n ≡ v.length + (n - v.length) = omega arith in
    ap (ascending test 0) whole ∙ ascending-cut test (contains v) 0 v.length (n - v.length) (λ i _ _. same i)
    (λ i above _. same i ∙ contains-past v i (omega (arith, above)))

-- those of a test that says below the length what the value has
pub below-asc : (v : Bits) (test : ℕ → Bool) (n : ℕ) → n ≡ v.length → ((p : ℕ) → p < n → test p ≡ contains v p)
    → ascending test 0 n ≡ asc v
unfolding asc
below-asc v test n long same =
    ap (ascending test 0) long ∙ ascending-same test (contains v) 0 v.length (λ p _ below. same p (omega arith))

-- those of a test that says below a bound what the value has, which has none past it
pub upto-asc : (v : Bits) (test : ℕ → Bool) (n : ℕ) → ((p : ℕ) → p < n → test p ≡ contains v p)
    → ((p : ℕ) → n ≤ p → contains v p ≡ false) → ascending test 0 n ≡ asc v
unfolding asc
upto-asc v test n same past =
    let all : ℕ = n + v.length in
    let turned : v.length + n ≡ all = omega arith in
    sym (ascending-cut (contains v) test 0 n v.length (λ p _ below. sym (same p (omega arith)))
    (λ p above _. past p (omega arith)))
    ∙ ap (ascending (contains v) 0) (sym turned)
    ∙ ascending-cut (contains v) (contains v) 0 v.length n (λ p _ _. refl)
    (λ p above _. contains-past v p (omega arith))

-- the first and the last position of the words that a set keeps
module _ (n : ℕ) (ws : List ℕ) (clean : IsClean n ws) where
  stored-asc : ascending (has_bit ws) 0 (64 * length ws) ≡ asc (of_words n ws)
  stored-asc =
      row-asc (of_words n ws) (has_bit ws) (64 * length ws) (holds_all n ws _ refl clean)
      (λ p. contains_word n ws p clean)

  pub row_minimum : slice_get (ascending (has_bit ws) 0 (64 * length ws)) 0 ≡ minimum (of_words n ws)
  unfolding minimum
  row_minimum = ap (λ xs. slice_get xs 0) stored-asc

  pub row_maximum : last_or None (ascending (has_bit ws) 0 (64 * length ws)) ≡ maximum (of_words n ws)
  unfolding maximum
  row_maximum = ap (last_or None) stored-asc

-- so many items fit a usize
pub fits_items : (v : Bits) (items : List ℕ) → items ≡ asc v → v.length < 2 ^ 64 → length items < 2 ^ 64
fits_items v items is fits = omega (arith, ap length is, length-asc v)

-- there is no first position exactly where none is set
pub none_is_clear : (v : Bits) (first : Option ℕ) (none : Bool) → first ≡ minimum v → is_some first ≡ not none
    → none ≡ is_clear v
none_is_clear v None none same is = let clear = (is_clear-tells v).1 (minimum_none v (sym same)) in grind (arith, clear)
none_is_clear v (Some p) none same is =
    let one = (minimum_least v p (sym same)).0 in
    let clear : is_clear v ≡ true → contains v p ≡ false = λ e. (is_clear-tells v).0 e p in
    grind (arith, one, clear)

-- a set is apart from itself exactly where it has no position
pub apart_from_itself : (v : Bits) → is_disjoint v v ≡ is_clear v
apart_from_itself v =
    let apart = is_disjoint-tells v v in
    same_from_decides (is_disjoint v v) (is_clear v) (
      λ e p. false_from_ne_true _ (λ one. apart.0 e p one one),
      λ none. apart.1 (λ p one _. true≢false (sym one ∙ none p)),
    ) (is_clear-tells v)

module _ (v : Bits) where
  abbrev inverted : List ℕ
  inverted = map (bit_not w64) (words v)

  -- a position below the length, in the inverted words
  has_bit-zeroes : (p : ℕ) → p < v.length → has_bit inverted p ≡ contains (complement v) p
  has_bit-zeroes p below =
      grind (
        arith,
        nat_tests,
        has_bit-inverted (words v) p (are_words v) (omega (arith, length-words v)),
        has_bit-words v p,
        contains-complement v p,
      )

  pub zeroes-row : (n : ℕ) → n ≡ v.length → ascending (has_bit inverted) 0 (n - 0) ≡ asc (complement v)
  zeroes-row n long =
      below-asc (complement v) (has_bit inverted) (n - 0) (omega (arith, long, length-complement v))
      (λ p below. has_bit-zeroes p (omega (arith, long, below)))

  -- the positions of a range, in a row that has those of the value
  range-asc : (row : List ℕ) (start end : ℕ) → start ≤ end → end ≤ v.length
      → ((p : ℕ) → p < v.length → has_bit row p ≡ contains v p)
      → ascending (has_bit row) start (end - start) ≡ ones_of v start end
  unfolding asc
  range-asc row start end order valid same =
      let part = within v start end in
      let long : part.length ≡ start + ((end - start) + (v.length - end)) = omega (arith, length-within v start end) in
      let members = contains-within v start end in
      sym (ap (ascending (contains part) 0) long
      ∙ ascending-skip (contains part) (contains part) 0 start ((end - start) + (v.length - end))
      (λ p _ below. grind (arith, nat_tests, members p)) (λ p _ _. refl)
      ∙ ascending-cut (contains part) (has_bit row) (0 + start) (end - start) (v.length - end)
      (λ p above below. grind (arith, nat_tests, members p, same p)) (λ p above _. grind (arith, nat_tests, members p))
      ∙ (let from : 0 + start ≡ start = omega arith in ap (λ low. ascending (has_bit row) low (end - start)) from))

  pub ones-within : (start end : ℕ) → IsTrue (is_valid v start end)
      → ascending (has_bit (words v)) start (end - start) ≡ ones_of v start end
  ones-within start end valid = let ends = valid_range v start end valid in
      range-asc (words v) start end ends.0 ends.1 (λ p below. has_bit-words v p)

  -- the walk over the words is that over the value
  pub over_row-begun : over_row (words v) (64 * length (words v)) ≡ begun v
  over_row-begun =
      let items = words-asc v in λ i. record { items = items i; words = between_ends (words v); turns = 0; taken = 0 }

-- the positions of a range that are not set, in the inverted words
pub zeroes-within : (v : Bits) (start end : ℕ) → IsTrue (is_valid v start end)
    → ascending (has_bit (inverted v)) start (end - start) ≡ zeroes_of v start end
zeroes-within v start end valid =
    let ends = valid_range v start end valid in
    range-asc (complement v) (inverted v) start end ends.0 (omega (arith, ends, length-complement v))
    (λ p below. has_bit-zeroes v p (omega (arith, below, length-complement v)))

-- the words of all positions are the words
pub range_cut-whole : (n : ℕ) (ws : List ℕ) → length ws ≤ div_ceil n 64 → range_cut 0 n ws ≡ ws
range_cut-whole n ws fits = let all : div_ceil n 64 - 0 ≡ div_ceil n 64 = omega arith in
    ap (λ k. take k ws) all ∙ take_all (div_ceil n 64) ws fits

-- ---- the walks over two sets

-- the positions of v that pass are those of a value of its length
sieved : (v u : Bits) (test : ℕ → Bool) → u.length ≡ v.length → ((p : ℕ) → contains u p ≡ (contains v p && test p))
    → filter test (asc v) ≡ asc u
unfolding asc
sieved v u test long members =
    filter-ascending (contains v) test 0 v.length ∙ ascending-same _ (contains u) 0 v.length (λ p _ _. sym (members p))
    ∙ ap (ascending (contains u) 0) (sym long)

-- the positions of words that have those of v, each joined with the word at its place of a row that has those of w
module _ {f : ℕ → ℕ → ℕ} {t : Bool → Bool → Bool} {keep take_right : Bool} (law : IsWordOp f t keep take_right)
    (drops : take_right ≡ false)
    (v w u : Bits) (members : (p : ℕ) → contains u p ≡ t (contains v p) (contains w p)) where
  pub asc-beside : (ws row : List ℕ) → AreWords ws → AreWords row
      → ((p : ℕ) → p < 64 * length ws → has_bit ws p ≡ contains v p) → ((p : ℕ) → has_bit row p ≡ contains w p)
      → ((p : ℕ) → 64 * length ws ≤ p → contains u p ≡ false)
      → ascending (has_bit (beside f ws row)) 0 (64 * length (beside f ws row)) ≡ asc u
  asc-beside ws row are_ws are_row own other past =
      let long = length-beside f ws row in
      upto-asc u _ (64 * length (beside f ws row))
      (λ p below. let first = own p (omega (arith, below, long)) in let second = other p in
      has_bit-beside law drops ws row are_ws are_row p ∙ (λ i. t (first i) (second i)) ∙ sym (members p))
      (λ p above. past p (omega (arith, above, long)))

  -- they are words
  words-beside : (ws row : List ℕ) → AreWords ws → AreWords row → AreWords (beside f ws row)
  words-beside ws row are_ws are_row k =
      ⊎_elim
      (λ (within : k < length ws).
      rw (get_or-beside f ws row k within) (law.fits (get_or ws k 0) (get_or row k 0) (are_ws k) (are_row k)))
      (λ (past : length ws ≤ k).
      rw (get_or_past (beside f ws row) k 0 (omega (arith, past, length-beside f ws row))) (pow_pos 64))
      (cases_lt k (length ws))

  -- as many as the length of a value with these positions needs are its words
  pub beside-words : (ws row : List ℕ) → AreWords ws → AreWords row → length ws ≡ words_needed u.length
      → ((p : ℕ) → p < 64 * length ws → has_bit ws p ≡ contains v p)
      → ((p : ℕ) → has_bit row p ≡ contains w p) → beside f ws row ≡ words u
  beside-words ws row are_ws are_row count own other =
      let long = length-beside f ws row in
      words_is u (beside f ws row) (words-beside ws row are_ws are_row) (long ∙ count)
      (λ p below. let first = own p (omega (arith, below, long)) in let second = other p in
      has_bit-beside law drops ws row are_ws are_row p ∙ (λ i. t (first i) (second i)) ∙ sym (members p))

module _ (v w : Bits) where
  asc-intersection : filter (λ p. contains w p) (asc v) ≡ asc (intersection v w)
  asc-intersection = sieved v (intersection v w) _ (length-intersection v w) (contains-intersection v w)

  asc-difference : filter (λ p. not (contains w p)) (asc v) ≡ asc (difference v w)
  asc-difference = sieved v (difference v w) _ (length-difference v w) (contains-difference v w)

  -- the walk over the words of one value, sieved by those of another
  sieved_items : (passes : Bool → Bool)
      → (sieve_over passes (words v) (words w)).items ≡ filter (λ p. passes (contains w p)) (asc v)
  sieved_items passes =
      let all = words-asc v in let other = has_bit-words w in λ i. filter (λ p. passes (other p i)) (all i)

  module _ (walk : Sieved) where
    pub shared_items : walk ≡ sieve_over (λ b. b) (words v) (words w) → walk.items ≡ asc (intersection v w)
    shared_items is = rw is (sieved_items (λ b. b) ∙ asc-intersection)

    pub lacked_items : walk ≡ sieve_over not (words v) (words w) → walk.items ≡ asc (difference v w)
    lacked_items is = rw is (sieved_items not ∙ asc-difference)

    pub sieve_source : (passes : Bool → Bool) → walk ≡ sieve_over passes (words v) (words w) → walk.source ≡ begun v
    sieve_source passes is = rw is (over_row-begun v)

-- two tests that no number passes both
both_counts : (p q : ℕ → Bool) (n : ℕ) → ((i : ℕ) → (p i && q i) ≡ false) → count_below p n + count_below q n ≤ n
both_counts p q zero apart = omega (arith, count-zero p, count-zero q)
both_counts p q (suc n) apart = grind (arith, apart n, count-suc p n, count-suc q n, both_counts p q n apart)

-- the positions of a value, counted up to any bound that is not below its length
length-upto : (v : Bits) (n : ℕ) → v.length ≤ n → length (asc v) ≡ count_below (contains v) n
unfolding asc
length-upto v n longer =
    length-count (contains v) v.length
    ∙ sym (count-shorter (contains v) v.length n longer (λ p past _. contains-past v p past))

-- two values with no position in common have at most as many positions as the longer one has places
length-apart : (v w : Bits) → ((p : ℕ) → (contains v p && contains w p) ≡ false)
    → length (asc v ++ asc w) ≤ max v.length w.length
length-apart v w apart =
    let n : ℕ = max v.length w.length in
    omega (
      arith,
      length-append (asc v) (asc w),
      length-upto v n (omega arith),
      length-upto w n (omega arith),
      both_counts (contains v) (contains w) n apart,
    )

pub length-union_items : (v w : Bits) → length (asc v ++ asc (difference w v)) ≤ max v.length w.length
length-union_items v w =
    omega (
      arith,
      length-apart v (difference w v) (λ p. grind (arith, contains-difference w v p)),
      length-difference w v,
    )

pub length-split_items : (v w : Bits) → length (asc (difference v w) ++ asc (difference w v)) ≤ max v.length w.length
length-split_items v w =
    omega (
      arith,
      length-apart (difference v w) (difference w v)
          (λ p. grind (arith, contains-difference v w p, contains-difference w v p)),
      length-difference v w,
      length-difference w v,
    )
