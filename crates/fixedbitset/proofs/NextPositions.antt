-- The position next to a given one, and the k-th, found in the words that a set keeps.
use Rattle.std.specs.Prelude.{slice_get}
use Rattle.std.specs.List.{last_or}
use Rattle.std.proofs.Common.{◌≡◌, ℕ, ◌+◌, ◌*◌, ◌<◌, ◌≤◌, Bool, true, false, not, ◌&&◌, nat_lt, nat_le, min}
use Rattle.std.proofs.Common.{filter, List, length, Option, Some, None, IfSome, IfNone, sym, subst, ap, ◌∙◌, arith}
use Rattle.std.proofs.Common.{⊎_elim}
use Rattle.std.proofs.lemmas.Bool.{cases_lt}
use Rattle.std.proofs.lemmas.Bool.Decides.{nat_tests}
use Rattle.bitwords.specs.Ascending.{ascending}
use Rattle.bitwords.specs.AscendingFacts.{ascending-none, filter-ascending, first-ascending, last-ascending}
use Rattle.bitwords.specs.CountFacts.{count-zero}
use Rattle.bitwords.specs.Neighbours.{IsNext, IsPrevious, NonePasses, IsNth}
use Rattle.bitwords.specs.NthFacts.{nth-ascending, none-ascending}
use Rattle.bitwords.specs.Rows.{has_bit, bit_test, bits_test, count_below}
use Rattle.fixedbitset.specs.Bits.{Bits, asc, complement, contains, of_words, storage_words, words}
use Rattle.fixedbitset.specs.BitsFacts.{length-complement, contains-complement}
use Rattle.fixedbitset.specs.Neighbours.{next_one, next_zero, previous_one, previous_zero}
use Rattle.fixedbitset.specs.Stored.{IsClean}
use Rattle.fixedbitset.specs.TwoSets.{intersection}
use Rattle.fixedbitset.specs.TwoSetsFacts.{contains-intersection}
use Rattle.fixedbitset.specs.WordsFacts.{length-of_words, words-asc}
use Rattle.fixedbitset.proofs.Positions.{below-asc, upto-asc}
use Rattle.fixedbitset.proofs.Words.{contains_word}

-- ---- among the numbers below n that pass

module _ (test : ℕ → Bool) (n : ℕ) where
  next : (from : ℕ) (found : Option ℕ) → IfSome found (IsNext test from n) → IfNone found (NonePasses test from n)
      → found ≡ slice_get (filter (nat_le from) (ascending test 0 n)) 0
  next from (Some x) is none =
      sym (ap (λ xs. slice_get xs 0) (filter-ascending test (nat_le from) 0 n)
      ∙ first-ascending (λ i. test i && nat_le from i) n x is.below
      (grind (arith, nat_tests, is.passes, is.after)) (λ i before. grind (arith, nat_tests, is.none i)))
  next from None is none =
      sym (ap (λ xs. slice_get xs 0) (filter-ascending test (nat_le from) 0 n
      ∙ ascending-none (λ i. test i && nat_le from i) 0 n (λ i above below. grind (arith, nat_tests, none i))))

  previous : (below : ℕ) (found : Option ℕ) → IfSome found (IsPrevious test (min below n))
      → IfNone found (NonePasses test 0 (min below n))
      → found ≡ last_or None (filter (λ p. nat_lt p below) (ascending test 0 n))
  previous below (Some x) is none =
      sym (ap (last_or None) (filter-ascending test (λ p. nat_lt p below) 0 n)
      ∙ last-ascending (λ i. test i && nat_lt i below) n x (omega (arith, is.below))
      (grind (arith, nat_tests, is.passes, is.below)) (λ i above within. grind (arith, nat_tests, is.none i above)))
  previous below None is none =
      sym (ap (last_or None) (filter-ascending test (λ p. nat_lt p below) 0 n
      ∙ ascending-none (λ i. test i && nat_lt i below) 0 n
      (λ i above within. grind (arith, nat_tests, none i (omega arith)))))

-- ---- in the words of a value

module _ (n : ℕ) (ws : List ℕ) (clean : IsClean n ws) where
  abbrev sets : ℕ → Bool
  sets = bit_test (λ y. true && y) ws

  abbrev lacks : ℕ → Bool
  lacks = bit_test (λ y. true && not y) ws

  ones : ascending sets 0 n ≡ asc (of_words n ws)
  unfolding bit_test
  ones = below-asc (of_words n ws) _ n (sym (length-of_words n ws)) (λ p _. contains_word n ws p clean)

  zeroes : ascending lacks 0 n ≡ asc (complement (of_words n ws))
  unfolding bit_test
  zeroes =
      let v = of_words n ws in
      below-asc (complement v) _ n (sym (length-complement v ∙ length-of_words n ws))
      (λ p below. grind (arith, nat_tests, contains_word n ws p clean, contains-complement v p, length-of_words n ws))

  -- no position of the words is past the length
  ones_in_row : ascending sets 0 (64 * length ws) ≡ asc (of_words n ws)
  unfolding bit_test
  ones_in_row =
      upto-asc (of_words n ws) sets (64 * length ws) (λ p _. contains_word n ws p clean)
      (λ p past. sym (contains_word n ws p clean) ∙ clean.tail p (omega (arith, past, clean.count)))

  pub next_one_in_row : (from : ℕ) (found : Option ℕ) → IfSome found (IsNext sets from (64 * length ws))
      → IfNone found (NonePasses sets from (64 * length ws)) → found ≡ next_one (of_words n ws) from
  unfolding next_one
  next_one_in_row from found is none =
      next _ (64 * length ws) from found is none ∙ ap (λ xs. slice_get (filter (nat_le from) xs) 0) ones_in_row

  pub no_next_one : (from : ℕ) → n ≤ from → None ≡ next_one (of_words n ws) from
  unfolding bit_test
  no_next_one from past =
      next_one_in_row from None tt (λ i after _. clean.tail i (omega (arith, past, after)))

  pub next_zero_of : (from : ℕ) (found : Option ℕ) → IfSome found (IsNext lacks from n)
      → IfNone found (NonePasses lacks from n) → found ≡ next_zero (of_words n ws) from
  unfolding next_one next_zero
  next_zero_of from found is none =
      next _ n from found is none ∙ ap (λ xs. slice_get (filter (nat_le from) xs) 0) zeroes

  pub previous_one_of : (below : ℕ) (found : Option ℕ) → IfSome found (IsPrevious sets (min below n))
      → IfNone found (NonePasses sets 0 (min below n)) → found ≡ previous_one (of_words n ws) below
  unfolding previous_one
  previous_one_of below found is none =
      previous _ n below found is none ∙ ap (λ xs. last_or None (filter (λ p. nat_lt p below) xs)) ones

  pub previous_zero_of : (below : ℕ) (found : Option ℕ) → IfSome found (IsPrevious lacks (min below n))
      → IfNone found (NonePasses lacks 0 (min below n)) → found ≡ previous_zero (of_words n ws) below
  unfolding previous_one previous_zero
  previous_zero_of below found is none =
      previous _ n below found is none ∙ ap (λ xs. last_or None (filter (λ p. nat_lt p below) xs)) zeroes

-- ---- in the words of two values

module _ (n : ℕ) (xs : List ℕ) (clean_xs : IsClean n xs) (m : ℕ) (ys : List ℕ) (clean_ys : IsClean m ys) where
  abbrev shares : ℕ → Bool
  shares = bits_test (λ x y. x && y) xs ys

  abbrev common : ℕ
  common = 64 * min (length xs) (length ys)

  abbrev both : Bits
  both = intersection (of_words n xs) (of_words m ys)

  in_both : (p : ℕ) → shares p ≡ contains both p
  unfolding bits_test
  in_both p =
      grind (
        arith,
        contains_word n xs p clean_xs,
        contains_word m ys p clean_ys,
        contains-intersection (of_words n xs) (of_words m ys) p,
      )

  none_past : (p : ℕ) → min n m ≤ p → shares p ≡ false
  unfolding bits_test
  none_past p past = grind (arith, clean_xs.tail p, clean_ys.tail p)

  listed : ascending shares 0 common ≡ asc both
  listed =
      upto-asc both shares common (λ p _. in_both p)
      (λ p past. sym (in_both p) ∙ none_past p (omega (arith, past, clean_xs.count, clean_ys.count)))

  pub next_common_of : (from : ℕ) (found : Option ℕ) → IfSome found (IsNext shares from common)
      → IfNone found (NonePasses shares from common) → found ≡ next_one both from
  unfolding next_one
  next_common_of from found is none =
      next shares common from found is none ∙ ap (λ xs. slice_get (filter (nat_le from) xs) 0) listed

  pub no_next_common : (from : ℕ) → min n m ≤ from → None ≡ next_one both from
  no_next_common from past = next_common_of from None tt (λ i after _. none_past i (omega (arith, past, after)))

-- ---- the k-th in the words of a value

pub nth_one_of : (v : Bits) (ws : List ℕ) (end index : ℕ) → ws ≡ words v → end ≡ length ws → (found : Option ℕ)
    → IfSome found (IsNth (has_bit ws) (count_below (has_bit ws) (64 * 0) + index)) → IfSome found (λ p. p < 64 * end)
    → IfNone found (count_below (has_bit ws) (64 * end) ≤ count_below (has_bit ws) (64 * 0) + index)
    → found ≡ slice_get (asc v) index
nth_one_of v ws end index is long found nth below none = listed found nth below none
    ∙ ap (λ xs. slice_get xs index) (ap (λ xs. ascending (has_bit xs) 0 (64 * length xs)) is ∙ words-asc v)
  where
    before : count_below (has_bit ws) (64 * 0) + index ≡ index
    before = omega (arith, count-zero (has_bit ws))

    listed : (found : Option ℕ) → IfSome found (IsNth (has_bit ws) (count_below (has_bit ws) (64 * 0) + index))
        → IfSome found (λ p. p < 64 * end)
        → IfNone found (count_below (has_bit ws) (64 * end) ≤ count_below (has_bit ws) (64 * 0) + index)
        → found ≡ slice_get (ascending (has_bit ws) 0 (64 * length ws)) index
    listed (Some p) nth below none =
        sym (nth-ascending (has_bit ws) (64 * length ws) index p (omega (arith, below, long))
        (subst (λ k. IsNth (has_bit ws) k p) before nth))
    listed None nth below none =
        sym (none-ascending (has_bit ws) (64 * length ws) index
        (omega (arith, none, before, ap (λ k. count_below (has_bit ws) (64 * k)) long)))

-- the fewer words of two sets are those of the lesser length
pub fewer_words : (n m : ℕ) → min (storage_words n) (storage_words m) ≡ storage_words (min n m)
fewer_words n m = ⊎_elim
    (λ (less : n < m).
    let low : min n m ≡ n = omega (arith, less) in
    rw low (omega (arith, less)))
    (λ (more : m ≤ n).
    let low : min n m ≡ m = omega (arith, more) in
    rw low (omega (arith, more)))
    (cases_lt n m)
