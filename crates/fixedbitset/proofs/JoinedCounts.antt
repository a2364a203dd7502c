-- The counts of two sets and of ranges, and the questions that a count of 0 answers.
use Rattle.std.proofs.Common.{◌≡◌, ◌≢◌, ℕ, ◌+◌, ◌*◌, ◌/◌, ◌^◌, ◌<◌, ◌≤◌, max, Bool, true, false}
use Rattle.std.proofs.Common.{not, ◌&&◌, ◌||◌, ◌==◌, List, length, take, refl, sym, ap, ◌∙◌, arith}
use Rattle.std.specs.Ordering.{nat_cmp}
use Rattle.std.specs.Cmp.{nat_cmp_total}
use Rattle.std.specs.FinSet as set
use Rattle.std.specs.FinSet.{FinSet}
use Rattle.std.proofs.lemmas.Bool.{false_from_ne_true}
use Rattle.std.proofs.lemmas.Bool.Decides.{nat_tests}
use Rattle.std.proofs.lemmas.List.{length-take, get_or-take, take_all}
use Rattle.bitlanes.specs.Bits.{either}
use Rattle.bitlanes.specs.Ops.{IsWordOp}
use Rattle.bitwords.specs.Rows.{has_bit, in_range, count_below, bit_test, bits_test}
use Rattle.bitwords.specs.RowFacts.{has_bit-past}
use Rattle.bitwords.specs.CountFacts.{count-same, count-shorter, count-in_range, count-le}
use Rattle.fixedbitset.specs.Numbers.{numbers_between, symmetric_difference}
use Rattle.fixedbitset.specs.NumbersFacts as numbers
use Rattle.fixedbitset.specs.NumbersFacts.{same_set, contains-kept, len-below, none_len, same_truth}
use Rattle.fixedbitset.specs.Bits.{Bits, words_needed, contains, of_words}
use Rattle.fixedbitset.specs.BitsFacts.{same_bits, contains-past}
use Rattle.fixedbitset.specs.Order.{equal}
use Rattle.fixedbitset.specs.OrderFacts.{equal_if_same, same_if_equal}
use Rattle.fixedbitset.specs.Ranges.{count_ones, count_zeroes, contains_all, contains_any, is_valid}
use Rattle.fixedbitset.specs.Stored.{IsClean, count_joined, range_set}
use Rattle.fixedbitset.specs.TwoSets.{union_count, intersection_count, difference_count}
use Rattle.fixedbitset.specs.TwoSets.{symmetric_difference_count, is_disjoint, is_subset}
use Rattle.fixedbitset.specs.WordsFacts.{length-of_words}
use Rattle.fixedbitset.proofs.Words.{contains-range_set, length-range_set, contains_word, valid_range}

-- ---- a count of what two values share, by positions

module _ (t : Bool → Bool → Bool) (neither : t false false ≡ false) (v w : Bits) where
  abbrev kept : FinSet nat_cmp
  kept = set.retain (set.union v.positions w.positions) (λ p. t (contains v p) (contains w p))

  contains-passing : (p : ℕ) → set.contains kept p ≡ t (contains v p) (contains w p)
  unfolding contains
  contains-passing p =
      grind (
        arith,
        neither,
        contains-kept (set.union v.positions w.positions) (λ q. t (contains v q) (contains w q)) p,
        set.contains-union nat_cmp_total v.positions w.positions p,
      )

  passing_below : (n : ℕ) → v.length ≤ n → w.length ≤ n → (p : ℕ) → set.contains kept p ≡ true → p < n
  passing_below n first second p one = grind (arith, neither, contains-passing p, contains-past v p, contains-past w p)

  -- as many numbers below a bound of both lengths pass
  pub count_joined-below : (n : ℕ) (c : ℕ → Bool) → v.length ≤ n → w.length ≤ n
      → ((p : ℕ) → c p ≡ t (contains v p) (contains w p)) → count_joined t v w ≡ count_below c n
  unfolding count_joined
  count_joined-below n c first second is =
      len-below n kept (passing_below n first second) ∙ count-same _ _ n (λ p _. contains-passing p ∙ sym (is p))

  -- the size of the set of exactly these positions
  pub count_joined-size : (s : FinSet nat_cmp) → ((p : ℕ) → set.contains s p ≡ t (contains v p) (contains w p))
      → count_joined t v w ≡ set.len s
  unfolding count_joined
  count_joined-size s same = ap set.len (same_set kept s (λ p. contains-passing p ∙ sym (same p)))

-- ---- of two rows of words

-- a row of words with exactly the positions of a value, and room for its length
pub record Shows (v : Bits) (ws : List ℕ) : Type 0 where
  pub fits : v.length < 2 ^ 64
  pub room : v.length ≤ 64 * length ws
  pub bits : (p : ℕ) → has_bit ws p ≡ contains v p

-- the words of a set, cut behind at least as many as its length needs
pub shows_cut : (n k : ℕ) (ws : List ℕ) → IsClean n ws → words_needed n ≤ k → Shows (of_words n ws) (take k ws)
unfolding has_bit
shows_cut n k ws clean enough = record {
  fits = omega (arith, clean.fits, length-of_words n ws);
  room = omega (arith, clean.count, length-of_words n ws, length-take k ws);
  bits = λ p.
      grind (
        arith,
        clean.count,
        clean.tail p,
        contains_word n ws p clean,
        length-take k ws,
        has_bit-past (take k ws) p,
        get_or-take k ws (p / 64) 0,
      );
}

-- all words of a set
pub shows : (n : ℕ) (ws : List ℕ) → IsClean n ws → Shows (of_words n ws) ws
shows n ws clean =
    let all = take_all (length ws) ws (omega arith) in
    rw all at (shows_cut n (length ws) ws clean (omega (arith, clean.count)))

-- the count of two values is that of rows that show them, and a word holds it
module _ (t : Bool → Bool → Bool) (neither : t false false ≡ false) (v w : Bits) (xs ys : List ℕ) (first : Shows v xs)
    (second : Shows w ys) where
  pub count_rows : count_joined t v w ≡ count_below (bits_test t xs ys) (64 * max (length xs) (length ys))
  unfolding bits_test
  count_rows =
      count_joined-below t neither v w (64 * max (length xs) (length ys)) (bits_test t xs ys)
      (omega (arith, first.room)) (omega (arith, second.room)) (λ p. cc (first.bits p, second.bits p))

  pub count_rows-fits : count_below (bits_test t xs ys) (64 * max (length xs) (length ys)) < 2 ^ 64
  count_rows-fits =
      let c : ℕ → Bool = λ p. t (contains v p) (contains w p) in
      let below = count_joined-below t neither v w (max v.length w.length) c (omega arith) (omega arith) (λ p. refl) in
      omega (arith, count_rows, below, count-le c (max v.length w.length), first.fits, second.fits)

-- ---- of a range and a row of words

module _ {f : ℕ → ℕ → ℕ} {t : Bool → Bool → Bool} {keep take : Bool} (law : IsWordOp f t keep take)
    (drops : take ≡ false)
    (n : ℕ) (ws : List ℕ) (clean : IsClean n ws) (start end : ℕ)
    (valid : is_valid (of_words n ws) start end ≡ true) where
  pub count_range-is : count_joined t (range_set start end) (of_words n ws) + count_below (bit_test (t true) ws) start
      ≡ count_below (bit_test (t true) ws) end
  unfolding bit_test
  count_range-is =
      let v : Bits = of_words n ws in
      let ends = valid_range v start end valid in
      let d : ℕ → Bool = λ p. in_range start end p && t true (has_bit ws p) in
      omega (
        arith,
        count_joined-below t law.of_neither (range_set start end) v v.length d
            (omega (arith, length-range_set start end, ends)) (omega arith)
            (λ p.
            grind (
              arith,
              drops,
              contains_word n ws p clean,
              contains-range_set start end p,
              law.of_second (contains v p),
            )),
        count-shorter d end v.length ends.1 (λ p past _. grind (arith, nat_tests)),
        count-in_range (λ p. t true (has_bit ws p)) start end ends.0,
      )

-- a count stays over a range exactly if its part of the range is 0
pub part_is_none : (part start end : ℕ) → part + start ≡ end → (end == start) ≡ (part == 0)
part_is_none part start end e = grind (arith, nat_tests)

-- ---- the counts of the calls, and what a count of 0 says

pub union_count_of : (v w : Bits) → count_joined (λ x y. x || y) v w ≡ union_count v w
unfolding union_count contains
union_count_of v w =
    count_joined-size (λ x y. x || y) refl v w _ (set.contains-union nat_cmp_total v.positions w.positions)

pub intersection_count_of : (v w : Bits) → count_joined (λ x y. x && y) v w ≡ intersection_count v w
unfolding intersection_count contains
intersection_count_of v w =
    count_joined-size (λ x y. x && y) refl v w _ (set.contains-intersection nat_cmp_total v.positions w.positions)

pub difference_count_of : (v w : Bits) → count_joined (λ x y. x && not y) v w ≡ difference_count v w
unfolding difference_count contains
difference_count_of v w =
    count_joined-size (λ x y. x && not y) refl v w _ (set.contains-difference nat_cmp_total v.positions w.positions)

pub symmetric_difference_count_of : (v w : Bits) → count_joined either v w ≡ symmetric_difference_count v w
unfolding symmetric_difference_count contains
symmetric_difference_count_of v w =
    count_joined-size either refl v w _ (numbers.contains-symmetric_difference v.positions w.positions)

pub disjoint_of : (v w : Bits) → (count_joined (λ x y. x && y) v w == 0) ≡ is_disjoint v w
unfolding is_disjoint
disjoint_of v w = ap (λ n. n == 0) (intersection_count_of v w)

-- nothing is left of a set without another one exactly if it is a subset of that
pub none_left : (s t : FinSet nat_cmp) → (set.len (set.difference s t) == 0) ≡ set.is_subset s t
none_left s t =
    let member = set.contains-difference nat_cmp_total s t in
    let none = none_len (set.difference s t) in
    same_truth _ _
    (λ zero. set.contains-is_subset nat_cmp_total s t (λ p one. grind (arith, member p, none.0 zero p)))
    (λ all. none.1 (λ p. grind (arith, member p, set.is_subset-contains nat_cmp_total s t all p)))

pub subset_of : (v w : Bits) → (count_joined (λ x y. x && not y) v w == 0) ≡ is_subset v w
unfolding is_subset difference_count
subset_of v w = ap (λ n. n == 0) (difference_count_of v w) ∙ none_left v.positions w.positions

-- ---- the same of a range

same_range : (start end p : ℕ) → set.contains (numbers_between start end) p ≡ contains (range_set start end) p
same_range start end p = numbers.contains-numbers_between start end p ∙ sym (contains-range_set start end p)

module _ (v : Bits) (start end : ℕ) where
  pub count_ones_of : count_joined (λ x y. x && y) (range_set start end) v ≡ count_ones v start end
  unfolding count_ones contains
  count_ones_of =
      count_joined-size _ refl (range_set start end) v _
      (λ p.
      grind (
        arith,
        same_range start end p,
        set.contains-intersection nat_cmp_total (numbers_between start end) v.positions p,
      ))

  pub count_zeroes_of : count_joined (λ x y. x && not y) (range_set start end) v ≡ count_zeroes v start end
  unfolding count_zeroes contains
  count_zeroes_of =
      count_joined-size _ refl (range_set start end) v _
      (λ p.
      grind (
        arith,
        same_range start end p,
        set.contains-difference nat_cmp_total (numbers_between start end) v.positions p,
      ))

  pub contains_any_of : not (count_joined (λ x y. x && y) (range_set start end) v == 0) ≡ contains_any v start end
  unfolding contains_any
  contains_any_of = ap (λ n. not (n == 0)) count_ones_of

  pub contains_all_of : (count_joined (λ x y. x && not y) (range_set start end) v == 0) ≡ contains_all v start end
  unfolding contains_all count_zeroes
  contains_all_of = ap (λ n. n == 0) count_zeroes_of ∙ none_left (numbers_between start end) v.positions

-- ---- two values of one length are equal exactly if no position is in one of them alone

pub equal_of : (v w : Bits) → v.length ≡ w.length → (count_joined either v w == 0) ≡ equal v w
unfolding symmetric_difference_count contains
equal_of v w long =
    let none = none_len (symmetric_difference v.positions w.positions) in
    let tells = numbers.contains-symmetric_difference v.positions w.positions in
    ap (λ n. n == 0) (symmetric_difference_count_of v w)
    ∙ same_truth _ _
    (λ h. equal_if_same v w (same_bits v w long (λ p. grind (arith, tells p, none.0 h p))))
    (λ h. let e = same_if_equal v w h in none.1 (λ p. grind (arith, tells p, ap (λ x. contains x p) e)))

pub other_length : (v w : Bits) → v.length ≢ w.length → equal v w ≡ false
other_length v w other = false_from_ne_true _ (λ h. other (ap (λ x. x.length) (same_if_equal v w h)))
