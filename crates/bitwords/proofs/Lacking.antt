-- A row without another one: of each word the bits that the word of the other row lacks, and the rest as it is. What it
-- has first, and what becomes of a third row that takes it in, in two parts.
use Rattle.std.proofs.Common.{◌≡◌, ℕ, ◌+◌, ◌-◌, ◌*◌, ◌<◌, ◌≤◌, Bool, true, false, not, ◌&&◌, ◌||◌, ◌==◌}
use Rattle.std.proofs.Common.{inr, List, [], ◌∷◌, ◌++◌, take, drop, length, get_or, map, min, max, bit_or}
use Rattle.std.proofs.Common.{Option, Some, None, IfSome, IfNone, refl, sym, ap, ◌∙◌, arith, slice_get}
use Rattle.std.specs.List.{list_all}
use Rattle.std.specs.Simd.Lanes.{zip2}
use Rattle.std.proofs.lemmas.List.Folds.{list_all-append}
use Rattle.std.proofs.lemmas.List.{append-nil, append_assoc, drop-drop, length-append}
use Rattle.std.proofs.lemmas.List.{drop_all, length-drop, length-map, get_or_past}
use Rattle.std.proofs.lemmas.Simd.{get_or-zip2}
use borrow.Rule.Slice.PartMut.{put_mid, post_of}
use Rattle.bitlanes.specs.Bits.{bit_without}
use Rattle.bitlanes.specs.BitLaws.{laws_of_or, laws_of_without}
use Rattle.bitlanes.specs.Changes.{changed_bits, changes}
use Rattle.bitlanes.specs.Search.{IsFirstOne, IsNextOne, AreZeros, AreZerosFrom}
use Rattle.bitlanes.specs.Word.{IsLowestBit}
use Rattle.bitlanes.specs.Words.{zip_longest, lane_steps}
use Rattle.bitwords.specs.Ascending.{ascending}
use Rattle.bitwords.specs.AscendingFacts.{ascending-same}
use Rattle.bitwords.specs.CountFacts.{count-same}
use Rattle.bitwords.specs.Rows.{has_bit, count_below, bits_test, IsJoined}
use Rattle.bitwords.specs.RowFacts.{AreWords}
use Rattle.bitwords.specs.Steps.{both_steps}
use Rattle.bitwords.proofs.TwoRows.{changed-kept, AreWords-longest, has_bit-longest}
use Rattle.bitwords.proofs.Cleared.{IsJoined-kept}
use Rattle.bitwords.proofs.Joined.{IsJoined-same}
use Rattle.bitwords.proofs.FirstAndLast.{first_position, no_first_position}
use Rattle.bitwords.proofs.Written.{slice_rest, with_rest, length-both, length-kept}
use Rattle.bitwords.proofs.Written.{get_or-kept_both, get_or-kept_past, rest_kept, kept_first}

module _ (xs ys : List ℕ) (words_xs : AreWords xs) (words_ys : AreWords ys) where
  abbrev lacked : List ℕ
  lacked = zip_longest bit_without true false xs ys

  abbrev passes : ℕ → Bool
  passes = bits_test (λ x y. x && not y) xs ys

  are_words : AreWords lacked
  are_words = AreWords-longest laws_of_without xs ys words_xs words_ys

  tells : (p : ℕ) → has_bit lacked p ≡ passes p
  tells = has_bit-longest laws_of_without xs ys words_xs words_ys

  listed : ascending (has_bit lacked) 0 (64 * length lacked) ≡ ascending passes 0 (64 * length xs)
  listed =
      ascending-same (has_bit lacked) passes 0 (64 * length lacked) (λ i _ _. tells i)
      ∙ ap (λ n. ascending passes 0 (64 * n)) (length-kept bit_without xs ys)

  -- the lowest bit of its first word that is not 0 is its first position
  pub first_lacked : (k j : ℕ) → IsFirstOne lacked k → IsLowestBit (get_or lacked k 0) j
      → slice_get (ascending passes 0 (64 * length xs)) 0 ≡ Some (64 * k + j)
  first_lacked k j word low = ap (λ ps. slice_get ps 0) (sym listed) ∙ first_position lacked k j word low

  pub none_lacked : AreZeros lacked → slice_get (ascending passes 0 (64 * length xs)) 0 ≡ None
  none_lacked zeros = ap (λ ps. slice_get ps 0) (sym listed) ∙ no_first_position lacked zeros

  module _ (ws : List ℕ) (words_ws : AreWords ws) (shorter : length xs ≤ length ws) where
    -- what a row has that takes it in
    pub lacked_taken : IsJoined (λ x y. x || y) ws passes (zip_longest bit_or true false ws lacked)
    lacked_taken = IsJoined-same ws _ _ passes tells (IsJoined-kept laws_of_or ws lacked words_ws are_words (inr refl))

    -- whether a position of that row is new
    pub lacked_changes : not (list_all (λ w. w == 0) (zip2 (changed_bits bit_or) ws lacked))
        ≡ not (count_below (λ p. changes (λ x y. x || y) (has_bit ws p) (passes p)) (64 * length ws) == 0)
    unfolding bits_test
    lacked_changes =
        let long : 64 * max (length ws) (length lacked) ≡ 64 * length ws =
        omega (arith, length-kept bit_without xs ys) in
        changed-kept laws_of_or ws lacked words_ws are_words (λ _. omega (arith, length-kept bit_without xs ys))
        (inr refl)
        ∙ rw long (ap (λ n. not (n == 0))
        (count-same _ _ (64 * length ws) (λ p _. ap (changes (λ x y. x || y) (has_bit ws p)) (tells p))))

-- ---- its first word that is not 0, among those that both rows have or behind them

under_no_mask : (xs : List ℕ) → map (bit_or 0) xs ≡ xs
under_no_mask [] = refl
under_no_mask (x ∷ xs) = ap (λ t. x ∷ t) (under_no_mask xs)

module _ (f : ℕ → ℕ → ℕ) (xs ys : List ℕ) where
  of_both : (i : ℕ) → i < length xs → i < length ys
      → get_or (zip_longest f true false xs ys) i 0 ≡ get_or (zip2 f xs ys) i 0
  of_both i p q = get_or-kept_both f xs ys i p q ∙ sym (get_or-zip2 f xs ys i 0 0 0 p q)

  pub first_of_both : (k : ℕ) → IsFirstOne (zip2 f xs ys) k → IsFirstOne (zip_longest f true false xs ys) k
  first_of_both k word = record {
    after = word.after;
    within = omega (arith, word.within, length-both f xs ys, length-kept f xs ys);
    one = λ zero.
        word.one (sym (of_both k (omega (arith, word.within, length-both f xs ys))
        (omega (arith, word.within, length-both f xs ys))) ∙ zero);
    zeros = λ i from before. of_both i (omega (arith, word.within, length-both f xs ys))
        (omega (arith, word.within, length-both f xs ys)) ∙ word.zeros i from before;
  }

  module _ (none : AreZeros (zip2 f xs ys)) (n : ℕ) (both : n ≡ min (length xs) (length ys)) where
    behind_both : (i : ℕ) → n ≤ i → get_or (zip_longest f true false xs ys) i 0 ≡ get_or (map (bit_or 0) xs) i 0
    behind_both i past = rw under_no_mask (grind (arith, get_or-kept_past, get_or_past, length-kept))

    zero_before : (i m : ℕ) → ((j : ℕ) → n ≤ j → j < m → get_or (map (bit_or 0) xs) j 0 ≡ 0) → i < m
        → get_or (zip_longest f true false xs ys) i 0 ≡ 0
    zero_before i m rest before = grind (arith, of_both i, none i, behind_both i, rest i)

    pub found_behind : (found : Option ℕ) → IfSome found (IsNextOne (map (bit_or 0) xs) n)
        → IfSome found (IsFirstOne (zip_longest f true false xs ys))
    found_behind None word = tt
    found_behind (Some k) word = record {
      after = omega arith;
      within = omega (arith, word.within, length-map xs (bit_or 0), length-kept f xs ys);
      one = λ zero. word.one (sym (behind_both k word.after) ∙ zero);
      zeros = λ i _ before. zero_before i k word.zeros before;
    }

    pub unfound_behind : (found : Option ℕ) → IfNone found (AreZerosFrom (map (bit_or 0) xs) n)
        → IfNone found (AreZeros (zip_longest f true false xs ys))
    unfound_behind None zeros = λ i _. zero_before i (i + 1) (λ j from _. zeros j from) (omega arith)
    unfound_behind (Some k) _ = tt

-- the steps up to it
pub steps_behind : (xs ys : List ℕ) (found : Option ℕ) (n before mid after : ℕ) → n ≡ min (length xs) (length ys)
    → mid ≡ before + lane_steps (min (length xs) (length ys))
    → IfSome found (IsNextOne (map (bit_or 0) xs) n) → IfSome found (λ at. after ≡ mid + lane_steps (at + 1 - n))
    → IfSome found (λ at. after ≡ before + both_steps true false (at + 1) (length ys))
steps_behind xs ys None n before mid after both common word rest = tt
steps_behind xs ys (Some at) n before mid after both common word rest =
    omega (arith, both, common, word.after, word.within, length-map xs (bit_or 0), rest)

-- how many words it has, and each of them
pub ruleset row_words = (length-kept, get_or-kept_both, get_or-kept_past)

-- ---- in two parts: the words that both rows have, and those of the first behind them

zip2-append : (f : ℕ → ℕ → ℕ) (ws xs ys : List ℕ) → length xs ≤ length ws
    → zip2 f ws (xs ++ ys) ≡ zip2 f ws xs ++ zip2 f (drop (length xs) ws) ys
zip2-append f [] [] ys le = refl
zip2-append f (w ∷ ws) [] ys le = refl
zip2-append f [] (x ∷ xs) ys le = absurd (omega arith)
zip2-append f (w ∷ ws) (x ∷ xs) ys le = ap (λ t. f w x ∷ t) (zip2-append f ws xs ys (omega arith))

longest-append : (f : ℕ → ℕ → ℕ) (ws xs ys : List ℕ) → length xs ≤ length ws
    → zip2 f ws xs ++ zip_longest f true false (drop (length xs) ws) ys ≡ zip_longest f true false ws (xs ++ ys)
longest-append f ws xs ys le =
    rw (← with_rest f ws (xs ++ ys), ← with_rest f (drop (length xs) ws) ys, zip2-append f ws xs ys le)
    (grind (arith, append_assoc, drop-drop, length-append))

some_fails : (a b : Bool) → (not a || not b) ≡ not (a && b)
some_fails a b = grind arith

module _ (f g : ℕ → ℕ → ℕ) (n : ℕ) (ws xs ys row : List ℕ) (common : n ≡ min (length xs) (length ys))
    (shorter : length xs ≤ length ws) (first : row ≡ zip_longest f true false ws (zip2 g xs ys)) where
  both : length (zip2 g xs ys) ≡ n
  both = length-both g xs ys ∙ sym common

  rest_of_row : take (length row - n) (drop n row) ≡ drop n ws
  rest_of_row = slice_rest n row ∙ rw (first, ← both) (rest_kept f ws (zip2 g xs ys))

  rest_of_xs : take (length xs - n) (drop n xs) ≡ drop (length ys) xs
  rest_of_xs = slice_rest n xs ∙ rw common (grind (arith, drop_all))

  -- the words after both parts
  pub written_behind : (part : List ℕ)
      → part ≡ zip_longest f true false (take (length row - n) (drop n row)) (take (length xs - n) (drop n xs))
      → put_mid n (length row - n) row part ≡ zip_longest f true false ws (zip_longest g true false xs ys)
  written_behind part second =
      let none : post_of n (length row - n) row ≡ [] =
      drop_all (length row - n) (drop n row) (omega (arith, length-drop n row)) in
      let front : take n row ≡ zip2 f ws (zip2 g xs ys) =
      rw (first, ← both) (kept_first f ws (zip2 g xs ys) (omega (arith, both))) in
      let back : part ≡ zip_longest f true false (drop n ws) (drop (length ys) xs) = second
      ∙ rw (rest_of_row, rest_of_xs) in
      rw (front, back, none, append-nil, ← both)
      (longest-append f ws (zip2 g xs ys) (drop (length ys) xs) (omega (arith, both))
      ∙ ap (zip_longest f true false ws) (with_rest g xs ys))

  -- whether a word changed in either
  pub changed_behind : (joined behind : Bool)
      → joined ≡ not (list_all (λ w. w == 0) (zip2 (changed_bits f) ws (zip2 g xs ys)))
      → behind
      ≡ not (list_all (λ w. w == 0)
      (zip2 (changed_bits f) (take (length row - n) (drop n row)) (take (length xs - n) (drop n xs))))
      → (joined || behind) ≡ not (list_all (λ w. w == 0) (zip2 (changed_bits f) ws (zip_longest g true false xs ys)))
  changed_behind joined behind one other =
      (let b = other
      ∙ (let c = rest_of_row in let d = rest_of_xs in
      λ i. not (list_all (λ w. w == 0) (zip2 (changed_bits f) (c i) (d i)))) in λ i. one i || b i)
      ∙ some_fails _ _
      ∙ ap not
      (rw (
        ← with_rest g xs ys,
        zip2-append (changed_bits f) ws (zip2 g xs ys) (drop (length ys) xs) (omega (arith, both)),
        both,
      )
      (sym (list_all-append (λ w. w == 0) (zip2 (changed_bits f) ws (zip2 g xs ys)) _)))
