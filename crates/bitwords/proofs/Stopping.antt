-- What decides a test of words: the first position that passes, the word that has it, and the steps up to it.
use Rattle.std.proofs.Common.{◌≡◌, ℕ, ◌+◌, ◌-◌, ◌*◌, ◌/◌, ◌%◌, ◌^◌, ◌<◌, ◌≤◌, ◌==◌, Bool, true, false}
use Rattle.std.proofs.Common.{List, [], ◌∷◌, ◌++◌, length, drop, map, min, get_or, if◌then◌else◌}
use Rattle.std.proofs.Common.{refl, sym, ap, ◌∙◌, arith, ⊎_elim, zero, suc}
use Rattle.std.specs.List.{list_all}
use Rattle.std.specs.Simd.Lanes.{zip2, chunk}
use Rattle.std.proofs.lemmas.Bool.{cases_lt, true≢false}
use Rattle.std.proofs.lemmas.Bool.Decides.{nat_tests}
use Rattle.std.proofs.Math.Seq.{get_or-append_right}
use Rattle.std.proofs.lemmas.List.{get_or-map, get_or_past, get_or_append_left}
use Rattle.std.proofs.lemmas.List.{length-append, length-drop, length-map}
use Rattle.std.proofs.lemmas.Nat.{zero_from_ones}
use Rattle.std.proofs.lemmas.Simd.{get_or-chunk, length-chunk}
use Rattle.bitlanes.specs.Bits.{bit}
use Rattle.bitlanes.specs.Ops.{IsWordOp}
use Rattle.bitlanes.specs.Search.{IsFirstOne}
use Rattle.bitlanes.specs.Words.{zip_longest, lane_steps}
use Rattle.bitwords.specs.Cuts.{IsCut}
use Rattle.bitwords.specs.CountFacts.{count-none, count-suc, count-mono, count-shorter, indicator}
use Rattle.bitwords.specs.Neighbours.{IsNext}
use Rattle.bitwords.specs.Rows.{has_bit, count_below, bit_test}
use Rattle.bitwords.specs.RowFacts.{AreWords, has_bit-at, has_bit-past, bit-zero}
use Rattle.bitwords.specs.Steps.{both_steps, range_words, search_steps, word_end}
use Rattle.bitwords.proofs.Counted.{ones-bits, word-bits}
use Rattle.bitwords.proofs.Parts.{masked_whole}
use Rattle.bitwords.proofs.TwoRows.{zip_longest-parts, zip_longest-like}
use Rattle.bitwords.proofs.Written.{length-both}

-- ---- the word of the first position

module _ (ws : List ℕ) (words : AreWords ws) (test : ℕ → Bool) (end : ℕ)
    (tells : (i : ℕ) → i < end → has_bit ws i ≡ test i) where
  -- a word whose positions all fail is 0
  no_positions : (k : ℕ) → 64 * (k + 1) ≤ end → ((i : ℕ) → 64 * k ≤ i → i < 64 * (k + 1) → test i ≡ false)
      → get_or ws k 0 ≡ 0
  no_positions k within none =
      zero_from_ones (get_or ws k 0)
      (ones-bits 64 (get_or ws k 0) (words k)
      ∙ count-none (bit (get_or ws k 0)) 64 (λ i low.
      sym (has_bit-at ws k i low) ∙ tells (64 * k + i) (omega arith) ∙ none (64 * k + i) (omega arith) (omega arith)))

  -- the first position that passes stands in the first word that is not 0
  pub word_of_first : (p : ℕ) → IsNext test 0 end p → IsFirstOne ws (p / 64)
  unfolding has_bit
  word_of_first p next =
      let set : has_bit ws p ≡ true = tells p next.below ∙ next.passes in
      record {
        after = omega arith;
        within = grind (arith, set, has_bit-past ws p);
        one = λ zero. true≢false (sym set ∙ ap (λ w. bit w (p % 64)) zero ∙ bit-zero (p % 64));
        zeros =
            λ k _ before. no_positions k (omega (arith, next.below))
            (λ i from to. next.none i (omega arith) (omega arith));
      }

-- among whole words of a row, each joined with all ones
module _ {f : ℕ → ℕ → ℕ} {t : Bool → Bool → Bool} {keep take_right : Bool} (law : IsWordOp f t keep take_right)
    (drops : take_right ≡ false) (ws : List ℕ) (words : AreWords ws) (first last : ℕ) (order : first ≤ last)
    (within : last ≤ length ws) where
  abbrev joined : List ℕ
  joined = map (f (2 ^ 64 - 1)) (chunk first (last - first) ws)

  joined_word : (k : ℕ) → k < last - first → get_or joined k 0 ≡ f (2 ^ 64 - 1) (get_or ws (first + k) 0)
  joined_word k below =
      get_or-map (f (2 ^ 64 - 1)) (chunk first (last - first) ws) k 0 0
      (omega (arith, length-chunk first (last - first) ws (omega arith)))
      ∙ ap (f (2 ^ 64 - 1)) (get_or-chunk first (last - first) ws k 0 below)

  are_joined : AreWords joined
  are_joined k =
      ⊎_elim
      (λ (here : k < last - first). rw (joined_word k here) (law.fits (2 ^ 64 - 1) _ (omega arith) (words (first + k))))
      (λ (past : last - first ≤ k).
      rw (get_or_past joined k 0 (omega (
        arith,
        past,
        length-map (chunk first (last - first) ws) (f (2 ^ 64 - 1)),
        length-chunk first (last - first) ws (omega arith),
      ))) (omega arith))
      (cases_lt k (last - first))

  joined_tells : (i : ℕ) → i < 64 * (last - first) → has_bit joined i ≡ bit_test (t true) ws (64 * first + i)
  joined_tells i below =
      let k : ℕ = i / 64 in
      let j : ℕ = i % 64 in
      let here : 64 * k + j ≡ i = omega arith in
      let there : 64 * (first + k) + j ≡ 64 * first + i = omega arith in
      let bits : bit (f (2 ^ 64 - 1) (get_or ws (first + k) 0)) j ≡ bit_test (t true) ws (64 * (first + k) + j) =
      grind (
        arith,
        nat_tests,
        word-bits law drops ws words (first + k) (2 ^ 64 - 1) (64 * (first + k)) (64 * (first + k + 1)) (omega arith)
            (masked_whole (first + k)) j (omega arith),
      ) in
      ap (has_bit joined) (sym here) ∙ has_bit-at joined k j (omega arith)
      ∙ ap (λ w. bit w j) (joined_word k (omega arith)) ∙ bits ∙ ap (bit_test (t true) ws) there

  pub word_of_next : (p : ℕ) → IsNext (bit_test (t true) ws) (64 * first) (64 * last) p
      → IsFirstOne joined (p / 64 - first)
  word_of_next p next =
      let place : 64 * first + (p - 64 * first) ≡ p = omega (arith, next.after) in
      let word : (p - 64 * first) / 64 ≡ p / 64 - first = omega (arith, next.after) in
      rw word at (word_of_first joined are_joined (λ i. bit_test (t true) ws (64 * first + i)) (64 * (last - first))
      joined_tells (p - 64 * first)
      (record {
        after = omega arith;
        below = omega (arith, next.after, next.below);
        passes = ap (bit_test (t true) ws) place ∙ next.passes;
        none = λ i _ before. next.none (64 * first + i) (omega arith) (omega arith);
      }))

-- ---- how many pass before it and behind it

module _ (test : ℕ → Bool) (start end p : ℕ) (next : IsNext test start end p) where
  -- none passes before it
  pub stays_before : (x : ℕ) → start ≤ x → x ≤ p → count_below test x ≡ count_below test start
  stays_before x from to = count-shorter test start x from (λ i after before. next.none i after (omega arith))

  -- one more passes behind it
  pub grows_behind : (x : ℕ) → p < x → count_below test start < count_below test x
  grows_behind x past =
      omega (
        arith,
        stays_before p next.after (omega arith),
        count-suc test p,
        ap indicator next.passes,
        count-mono test (suc p) x (omega arith),
      )

  -- it stands before a place up to which more pass, and not before one up to which as many do
  pub within_grown : (x : ℕ) → start ≤ x → (count_below test x == count_below test start) ≡ false → p < x
  within_grown x from grown = grind (arith, nat_tests, stays_before x from)

  pub past_same : (x : ℕ) → (count_below test x == count_below test start) ≡ true → x ≤ p
  past_same x same = grind (arith, nat_tests, grows_behind x)

-- ---- the steps up to it, where a range is cut at the edges of words

module _ (start end low high p : ℕ) (is : IsCut start end low high) where
  -- in the first part
  pub steps_in_first : start ≤ p → p < low → range_words start low ≡ search_steps start (min end (word_end p))
  steps_in_first from below = grind (arith, is.first, is.middle, is.last, is.first_word, is.last_word, is.whole)

  -- in the whole words
  pub steps_in_whole : low ≤ p → p < high
      → range_words start low + lane_steps (p / 64 + 1 - low / 64) ≡ search_steps start (min end (word_end p))
  steps_in_whole from below = grind (arith, is.first, is.middle, is.last, is.first_word, is.last_word, is.whole)

  -- in the last part
  pub last_word_ends : high ≤ p → min end (word_end p) ≡ end
  last_word_ends from = omega (arith, is.last_word)

  -- the whole words have it where the middle has it
  pub next_in_whole : (test : ℕ → Bool) → IsNext test start end p → low ≤ p → p < high
      → IsNext test (64 * (low / 64)) (64 * (high / 64)) p
  next_in_whole test next from below =
      let edges : (low % 64 ≡ 0) × (high % 64 ≡ 0) =
      ⊎_elim (λ (past : low ≡ end). absurd (omega (arith, past, is.last))) (λ edges. edges) is.whole in
      record {
        after = omega (arith, edges);
        below = omega (arith, edges);
        passes = next.passes;
        none = λ i after before. next.none i (omega (arith, is.first, edges)) before;
      }

-- ---- its word, where two rows are joined to the end of the longer one

zeros_all : (xs : List ℕ) → ((i : ℕ) → i < length xs → get_or xs i 0 ≡ 0) → list_all (λ w. w == 0) xs ≡ true
zeros_all [] zeros = refl
zeros_all (x ∷ xs) zeros = rw (zeros 0 (omega arith)) (zeros_all xs (λ i below. zeros (suc i) (omega arith)))

all_zeros : (xs : List ℕ) → list_all (λ w. w == 0) xs ≡ true → (i : ℕ) → get_or xs i 0 ≡ 0
all_zeros [] zeros i = refl
all_zeros (x ∷ xs) zeros zero = grind (arith, nat_tests)
all_zeros (x ∷ xs) zeros (suc i) = all_zeros xs (grind (arith, nat_tests)) i

module _ (xs ys : List ℕ) (k : ℕ) (first : IsFirstOne (xs ++ ys) k) where
  -- it stands in the first part, where that has one
  first_in_front : list_all (λ w. w == 0) xs ≡ false → IsFirstOne xs k
  first_in_front some =
      let here : k < length xs =
      ⊎_elim
      (λ (below : k < length xs). below)
      (λ (past : length xs ≤ k). absurd (true≢false (sym (zeros_all xs (λ i before.
      sym (get_or_append_left xs ys 0 i before) ∙ first.zeros i (omega arith) (omega arith))) ∙ some)))
      (cases_lt k (length xs)) in
      record {
        after = omega arith;
        within = here;
        one = λ none. first.one (get_or_append_left xs ys 0 k here ∙ none);
        zeros = λ i from before. sym (get_or_append_left xs ys 0 i (omega arith)) ∙ first.zeros i from before;
      }

  -- and behind it, where that is zeros
  behind_front : list_all (λ w. w == 0) xs ≡ true → length xs ≤ k
  behind_front none =
      grind (arith, first.one, get_or_append_left xs ys 0 k, all_zeros xs none k)

  first_in_rest : list_all (λ w. w == 0) xs ≡ true → IsFirstOne ys (k - length xs)
  first_in_rest none =
      let past = behind_front none in
      record {
        after = omega arith;
        within = omega (arith, past, first.within, length-append xs ys);
        one = λ zero. first.one (get_or-append_right xs ys k 0 past ∙ zero);
        zeros =
            λ i _ before.
            let place : (length xs + i) - length xs ≡ i = omega arith in
            rw place at (sym (get_or-append_right xs ys (length xs + i) 0 (omega arith))
            ∙ first.zeros (length xs + i) (omega arith) (omega arith));
      }

all_if : (counts : Bool) (xs : List ℕ)
    → list_all (λ w. w == 0) (if counts then xs else []) ≡ (if counts then list_all (λ w. w == 0) xs else true)
all_if true xs = refl
all_if false xs = refl

module _ (f : ℕ → ℕ → ℕ) (keep also : Bool) (xs ys : List ℕ) (k : ℕ)
    (first : IsFirstOne (zip_longest f keep also xs ys) k) where
  abbrev common : List ℕ
  common = zip2 f xs ys

  abbrev kept : List ℕ
  kept = if keep then drop (length ys) xs else []

  abbrev taken : List ℕ
  taken = if also then drop (length xs) ys else []

  abbrev all_kept : Bool
  all_kept = if keep then list_all (λ w. w == 0) (drop (length ys) xs) else true

  in_parts : IsFirstOne (common ++ (kept ++ taken)) k
  in_parts = rw (zip_longest-parts f keep also xs ys) at first

  abbrev Steps : (before after : ℕ) → Type 0
  Steps before after =
      after ≡ before + both_steps keep also (min (k + 1) (length xs)) (min (k + 1) (length ys))

  -- where both rows have it
  pub stops_in_common : list_all (λ w. w == 0) common ≡ false → (before after : ℕ)
      → ((at : ℕ) → IsFirstOne common at → after ≡ before + lane_steps (at + 1)) → Steps before after
  stops_in_common some before after exact =
      let here = first_in_front common (kept ++ taken) k in_parts some in
      grind (arith, exact k here, here.within, length-both f xs ys)

  -- rows of one length
  pub stops_alike : length xs ≡ length ys → (before after : ℕ)
      → ((at : ℕ) → IsFirstOne common at → after ≡ before + lane_steps (at + 1)) → Steps before after
  stops_alike same before after exact =
      let here : IsFirstOne common k = rw (zip_longest-like f keep also xs ys same) at first in
      grind (arith, exact k here, here.within, length-both f xs ys)

  module _ (none : list_all (λ w. w == 0) common ≡ true) where
    past_common : min (length xs) (length ys) ≤ k
    past_common = omega (arith, behind_front common (kept ++ taken) k in_parts none, length-both f xs ys)

    in_rests : IsFirstOne (kept ++ taken) (k - min (length xs) (length ys))
    in_rests = rw (length-both f xs ys) at (first_in_rest common (kept ++ taken) k in_parts none)

    -- where only the first row has it
    pub stops_in_kept : all_kept ≡ false → (before mid after : ℕ)
        → mid ≡ before + lane_steps (min (length xs) (length ys))
        → ((at : ℕ) → IsFirstOne kept at → after ≡ mid + lane_steps (at + 1)) → Steps before after
    stops_in_kept some before mid after upto exact =
        let here = first_in_front kept taken _ in_rests (all_if keep (drop (length ys) xs) ∙ some) in
        grind (arith, exact _ here, here.within, past_common, length-drop (length ys) xs)

    -- where only the second row has it
    pub stops_in_taken : all_kept ≡ true → (before mid more after : ℕ)
        → mid ≡ before + lane_steps (min (length xs) (length ys))
        → more ≡ mid + (if keep then lane_steps (length xs - length ys) else 0)
        → ((at : ℕ) → IsFirstOne taken at → after ≡ more + lane_steps (at + 1)) → Steps before after
    stops_in_taken zeros before mid more after upto rest exact =
        let none_kept = all_if keep (drop (length ys) xs) ∙ zeros in
        let here = first_in_rest kept taken _ in_rests none_kept in
        grind (
          arith,
          exact _ here,
          here.within,
          past_common,
          behind_front kept taken _ in_rests none_kept,
          length-drop (length ys) xs,
          length-drop (length xs) ys,
        )
