-- A row of which a part is written over, or made 0. And the words of a row joined with those of another one: the rest
-- is kept, or cleared.
use Rattle.std.proofs.Common.{◌≡◌, ℕ, ◌+◌, ◌-◌, ◌<◌, ◌≤◌, List, length, get_or, arith, Bool}
use Rattle.std.proofs.Common.{true, false, replicate, sym, ap, ◌∙◌, ⊎_elim, ◌⊎◌, inl, inr}
use Rattle.std.proofs.lemmas.List.{get_or_append_left, get_or-append_right, get_or-take, get_or-drop}
use Rattle.std.proofs.lemmas.List.{length-append, length-take, length-drop, length-replicate, get_or-replicate}
use borrow.Rule.Slice.PartMut.{put_mid}
use Rattle.std.proofs.lemmas.Bool.{cases_lt}
use Rattle.bitwords.proofs.Written.{length-kept, get_or-kept_both, get_or-kept_past}
use Rattle.bitlanes.specs.Words.{zip_longest}
use Rattle.bitwords.specs.Rows.{has_bit, IsJoined}
use Rattle.bitlanes.specs.Ops.{IsWordOp}
use Rattle.bitwords.specs.RowFacts.{AreWords, has_bit-at, has_bit-past}
use Rattle.bitwords.proofs.Joined.{TakesWord, IsJoined_words}

module _ (row part : List ℕ) (at count : ℕ) (inside : at + count ≤ length row) (long : length part ≡ count) where
  abbrev pub put_row : List ℕ
  put_row = put_mid at count row part

  pub length-put_row : length put_row ≡ length row
  length-put_row = omega (arith, length-append {A = ℕ}, length-take {A = ℕ}, length-drop {A = ℕ})

  pub put_row_below : (k : ℕ) → k < at → get_or put_row k 0 ≡ get_or row k 0
  put_row_below k below = grind (arith, get_or_append_left, get_or-take, length-take)

  pub put_row_within : (k : ℕ) → at ≤ k → k < at + count → get_or put_row k 0 ≡ get_or part (k - at) 0
  put_row_within k from to = grind (arith, get_or_append_left, get_or-append_right, length-take)

  pub put_row_behind : (k : ℕ) → at + count ≤ k → get_or put_row k 0 ≡ get_or row k 0
  put_row_behind k behind = grind (arith, get_or-append_right, get_or-drop, length-take)

-- ---- a row whose words from word k on are made 0
module _ (row zeros : List ℕ) (k : ℕ) (inside : k ≤ length row) (are : zeros ≡ replicate (length row - k) 0) where
  abbrev pub cut_row : List ℕ
  cut_row = put_mid k (length row - k) row zeros

  middle : length zeros ≡ length row - k
  middle = ap length are ∙ length-replicate (length row - k) 0

  pub length-cut_row : length cut_row ≡ length row
  length-cut_row = length-put_row row zeros k (length row - k) (omega arith) middle

  pub get_or-cut_row_below : (i : ℕ) → i < k → get_or cut_row i 0 ≡ get_or row i 0
  get_or-cut_row_below = put_row_below row zeros k (length row - k) (omega arith) middle

  pub get_or-cut_row_from : (i : ℕ) → k ≤ i → i < length row → get_or cut_row i 0 ≡ 0
  get_or-cut_row_from i from within =
      put_row_within row zeros k (length row - k) (omega arith) middle i from (omega arith)
      ∙ ap (λ z. get_or z (i - k) 0) are ∙ get_or-replicate (length row - k) (i - k) 0 0 (omega arith)

module _ {f : ℕ → ℕ → ℕ} {t : Bool → Bool → Bool} {keep take_right : Bool} (law : IsWordOp f t keep take_right)
    (xs ys : List ℕ) (words_xs : AreWords xs) (words_ys : AreWords ys) where
  takes_other : (new : List ℕ) (k : ℕ) → get_or new k 0 ≡ f (get_or xs k 0) (get_or ys k 0)
      → TakesWord f xs (has_bit ys) new k
  takes_other new k joined =
      record { word = get_or ys k 0; fits = words_ys k; joined = joined; bits = λ i h. sym (has_bit-at ys k i h) }

  -- where the rest stays, or there is none
  pub IsJoined-kept : ((keep ≡ false) × (length (zip_longest f true false xs ys) ≤ length ys)) ⊎ (keep ≡ true)
      → IsJoined t xs (has_bit ys) (zip_longest f true false xs ys)
  IsJoined-kept whole = IsJoined_words law xs words_xs (has_bit ys) _ (length-kept f xs ys) (λ k within. ⊎_elim
      (λ (lt : k < length ys). inl (takes_other _ k (get_or-kept_both f xs ys k within lt)))
      (λ (ge : length ys ≤ k).
      inr (record {
        none = λ i h. has_bit-past ys _ (omega arith);
        left = inl (grind (arith, length-kept f xs ys), get_or-kept_past f xs ys k ge);
      }))
      (cases_lt k (length ys)))

  -- where the rest is made 0
  pub IsJoined-zeroed : (zeros : List ℕ) → keep ≡ false → length ys < length (zip_longest f true false xs ys)
      → zeros ≡ replicate (length (zip_longest f true false xs ys) - length ys) 0
      → IsJoined t xs (has_bit ys) (put_mid (length ys) (length (zip_longest f true false xs ys) - length ys)
      (zip_longest f true false xs ys) zeros)
  IsJoined-zeroed zeros gone shorter are =
      let m : List ℕ = zip_longest f true false xs ys in
      let long : length m ≡ length xs = length-kept f xs ys in
      let within : length ys ≤ length m = omega arith in
      IsJoined_words law xs words_xs (has_bit ys) _ (length-cut_row m zeros (length ys) within are ∙ long)
      (λ k inside. ⊎_elim
      (λ (lt : k < length ys).
      inl (takes_other _ k (get_or-cut_row_below m zeros (length ys) within are k lt
      ∙ get_or-kept_both f xs ys k inside lt)))
      (λ (ge : length ys ≤ k).
      inr (record {
        none = λ i h. has_bit-past ys _ (omega arith);
        left = inr (gone, get_or-cut_row_from m zeros (length ys) within are k ge (omega arith));
      }))
      (cases_lt k (length ys)))
