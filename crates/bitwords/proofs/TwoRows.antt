-- Two rows of words, joined to the end of the longer: their bits, their ones, whether all words are 0, and whether a
-- position changes.
use Rattle.std.proofs.Common.{◌≡◌, ℕ, zero, suc, ◌+◌, ◌*◌, ◌/◌, ◌%◌, ◌≤◌, max, Bool, true}
use Rattle.std.proofs.Common.{◌&&◌, List, [], ◌∷◌, ◌++◌, drop, length, get_or, sum_by, sym}
use Rattle.std.proofs.Common.{ap, ◌∙◌, arith, if◌then◌else◌, false, not, ◌==◌, ◌-◌, ◌⊎◌, take}
use Rattle.std.specs.Int.Count.{ones}
use Rattle.std.specs.List.{list_all}
use Rattle.std.specs.Simd.Lanes.{zip2}
use Rattle.std.proofs.Math.Seq.{drop-nil}
use Rattle.std.proofs.lemmas.List.{append-nil, drop_all, length-append, length-drop, take_all}
use Rattle.std.proofs.lemmas.List.Folds.{list_all-append}
use Rattle.std.proofs.lemmas.List.Sums.{sum_by-append}
use Rattle.bitlanes.specs.Bits.{bit}
use Rattle.bitlanes.specs.Ops.{IsWordOp}
use Rattle.bitlanes.specs.Words.{zip_longest}
use Rattle.bitwords.specs.Rows.{has_bit, count_below, bits_test}
use Rattle.bitwords.specs.CountFacts.{count-same, count-shorter}
use Rattle.bitwords.specs.RowFacts.{AreWords, bit-zero, has_bit-past}
use Rattle.bitwords.proofs.Counted.{row-ones, all-ones}
use Rattle.bitwords.proofs.Written.{length-both, length-kept, rest_kept}
use Rattle.std.proofs.Math.Bool.{and-true}
use Rattle.bitlanes.specs.Changes.{changed_bits, changes}
use Rattle.bitlanes.specs.ChangeFacts.{laws_of_changes}

-- the joined words, and then the rest of the longer row
pub zip_longest-parts : (f : ℕ → ℕ → ℕ) (keep take : Bool) (xs ys : List ℕ)
    → zip_longest f keep take xs ys
    ≡ zip2 f xs ys ++ ((if keep then drop (length ys) xs else []) ++ (if take then drop (length xs) ys else []))
zip_longest-parts f keep take [] ys = rw drop-nil (grind arith)
zip_longest-parts f keep take (x ∷ xs) [] = grind (arith, append-nil)
zip_longest-parts f keep take (x ∷ xs) (y ∷ ys) = ap (λ t. f x y ∷ t) (zip_longest-parts f keep take xs ys)

-- where neither rest is kept
pub longest_of_both : (f : ℕ → ℕ → ℕ) (xs ys : List ℕ) → zip_longest f false false xs ys ≡ zip2 f xs ys
longest_of_both f xs ys = zip_longest-parts f false false xs ys ∙ append-nil (zip2 f xs ys)

pub zip_longest-like : (f : ℕ → ℕ → ℕ) (keep take : Bool) (xs ys : List ℕ) → length xs ≡ length ys
    → zip_longest f keep take xs ys ≡ zip2 f xs ys
zip_longest-like f keep take xs ys e = rw zip_longest-parts (grind (arith, drop_all, append-nil))

-- where the longer's rest is kept, its sum is added
pub sum_longest : (h : ℕ → ℕ) (f : ℕ → ℕ → ℕ) (keep take : Bool) (xs ys : List ℕ)
    → sum_by h (zip_longest f keep take xs ys) ≡ sum_by h (zip2 f xs ys)
    + ((if keep then sum_by h (drop (length ys) xs) else 0) + (if take then sum_by h (drop (length xs) ys) else 0))
sum_longest h f keep take xs ys = rw zip_longest-parts (grind (arith, sum_by-append))

pub all_longest : (p : ℕ → Bool) (f : ℕ → ℕ → ℕ) (keep take : Bool) (xs ys : List ℕ)
    → list_all p (zip_longest f keep take xs ys)
    ≡ (list_all p (zip2 f xs ys)
    && ((if keep then list_all p (drop (length ys) xs) else true)
    && (if take then list_all p (drop (length xs) ys) else true)))
all_longest p f keep take xs ys = rw zip_longest-parts (grind (arith, list_all-append))

-- rows of one length have no rest
pub sum_like : (h : ℕ → ℕ) (f : ℕ → ℕ → ℕ) (keep take : Bool) (xs ys : List ℕ) → length xs ≡ length ys
    → sum_by h (zip_longest f keep take xs ys) ≡ sum_by h (zip2 f xs ys)
sum_like h f keep take xs ys same = ap (sum_by h) (zip_longest-like f keep take xs ys same)

pub all_like : (p : ℕ → Bool) (f : ℕ → ℕ → ℕ) (keep take : Bool) (xs ys : List ℕ) → length xs ≡ length ys
    → list_all p (zip_longest f keep take xs ys) ≡ list_all p (zip2 f xs ys)
all_like p f keep take xs ys same = ap (list_all p) (zip_longest-like f keep take xs ys same)

-- no longer than the longer row
longest-le : (f : ℕ → ℕ → ℕ) (keep take : Bool) (xs ys : List ℕ)
    → length (zip_longest f keep take xs ys) ≤ max (length xs) (length ys)
longest-le f keep take xs ys = rw zip_longest-parts (grind (arith, length-append, length-drop, length-both))

bit-if : (b : Bool) (zs : List ℕ) (k i : ℕ) → bit (get_or (if b then zs else []) k 0) i ≡ (b && bit (get_or zs k 0) i)
bit-if b zs k i = grind (arith, bit-zero i)

module _ {f : ℕ → ℕ → ℕ} {t : Bool → Bool → Bool} {keep take : Bool} (law : IsWordOp f t keep take) where
  bit-longest : (xs ys : List ℕ) → AreWords xs → AreWords ys → (k i : ℕ)
      → bit (get_or (zip_longest f keep take xs ys) k 0) i ≡ t (bit (get_or xs k 0) i) (bit (get_or ys k 0) i)
  bit-longest [] ys p q k i =
      bit-if take ys k i ∙ sym (ap (λ b. t b (bit (get_or ys k 0) i)) (bit-zero i) ∙ law.of_second _)
  bit-longest (x ∷ xs) [] p q k i =
      bit-if keep (x ∷ xs) k i ∙ sym (ap (t (bit (get_or (x ∷ xs) k 0) i)) (bit-zero i) ∙ law.of_first _)
  bit-longest (x ∷ xs) (y ∷ ys) p q zero i = law.by_bits x y i (p 0) (q 0)
  bit-longest (x ∷ xs) (y ∷ ys) p q (suc k) i = bit-longest xs ys (λ j. p (suc j)) (λ j. q (suc j)) k i

  pub AreWords-longest : (xs ys : List ℕ) → AreWords xs → AreWords ys → AreWords (zip_longest f keep take xs ys)
  AreWords-longest [] ys p q k = grind (arith, q k)
  AreWords-longest (x ∷ xs) [] p q k = grind (arith, p k)
  AreWords-longest (x ∷ xs) (y ∷ ys) p q zero = law.fits x y (p 0) (q 0)
  AreWords-longest (x ∷ xs) (y ∷ ys) p q (suc k) = AreWords-longest xs ys (λ j. p (suc j)) (λ j. q (suc j)) k

  pub has_bit-longest : (xs ys : List ℕ) → AreWords xs → AreWords ys → (p : ℕ)
      → has_bit (zip_longest f keep take xs ys) p ≡ bits_test t xs ys p
  unfolding has_bit bits_test
  has_bit-longest xs ys words_xs words_ys p = bit-longest xs ys words_xs words_ys (p / 64) (p % 64)

  -- the ones of the joined words are the positions that pass
  pub longest-ones : (xs ys : List ℕ) → AreWords xs → AreWords ys
      → sum_by ones (zip_longest f keep take xs ys) ≡ count_below (bits_test t xs ys) (64 * max (length xs) (length ys))
  longest-ones xs ys words_xs words_ys =
      let row : List ℕ = zip_longest f keep take xs ys in
      row-ones row (AreWords-longest xs ys words_xs words_ys)
      ∙ sym (count-shorter (has_bit row) (64 * length row) (64 * max (length xs) (length ys))
      (omega (arith, longest-le f keep take xs ys)) (λ p past _. has_bit-past row p past))
      ∙ count-same (has_bit row) (bits_test t xs ys) (64 * max (length xs) (length ys))
      (λ p _. has_bit-longest xs ys words_xs words_ys p)

either_fails : (a b : Bool) → (if not a then true else not b) ≡ not (a && b)
either_fails a b = grind arith

module _ {f : ℕ → ℕ → ℕ} {t : Bool → Bool → Bool} {keep also : Bool} (law : IsWordOp f t keep also) (xs ys : List ℕ)
    (words_xs : AreWords xs) (words_ys : AreWords ys) (shorter : also ≡ true → length ys ≤ length xs) where
  abbrev all_zero : List ℕ → Bool
  all_zero ws = list_all (λ w. w == 0) ws

  abbrev same_both : Bool
  same_both = all_zero (zip2 (changed_bits f) xs ys)

  abbrev none_changed : Bool
  none_changed = count_below (bits_test (changes t) xs ys) (64 * max (length xs) (length ys)) == 0

  -- what only the second row has is taken only where there is nothing
  none_taken : (if also then all_zero (drop (length xs) ys) else true) ≡ true
  none_taken = grind (arith, drop_all)

  by_words : none_changed ≡ (same_both && (if not keep then all_zero (drop (length ys) xs) else true))
  by_words =
      sym (all-ones (zip_longest (changed_bits f) (not keep) also xs ys)
      ∙ ap (λ n. n == 0) (longest-ones (laws_of_changes law) xs ys words_xs words_ys))
      ∙ all_longest (λ w. w == 0) (changed_bits f) (not keep) also xs ys
      ∙ ap (λ b. same_both && b) (ap (λ b. (if not keep then all_zero (drop (length ys) xs) else true) && b) none_taken
      ∙ and-true _)

  -- where the rest is made 0
  pub changed-zeroed : (joined cleared : Bool) (new : List ℕ) → keep ≡ false → joined ≡ not same_both
      → new ≡ zip_longest f true false xs ys
      → cleared ≡ not (all_zero (take (length new - length ys) (drop (length ys) new)))
      → (if joined then true else cleared) ≡ not none_changed
  changed-zeroed joined cleared new gone first kept second =
      (let b = second
      ∙ ap (λ ws. not (all_zero ws)) (take_all (length new - length ys) (drop (length ys) new)
      (omega (arith, length-drop (length ys) new)) ∙ ap (drop (length ys)) kept) in λ i. if first i then true else b i)
      ∙ either_fails same_both _
      ∙ ap not (ap (λ ws. same_both && all_zero ws) (rest_kept f xs ys)
      ∙ sym (by_words ∙ ap (λ b. same_both && (if not b then all_zero (drop (length ys) xs) else true)) gone))

  rest_same : ((keep ≡ false) × (length (zip_longest f true false xs ys) ≤ length ys)) ⊎ (keep ≡ true)
      → (if not keep then all_zero (drop (length ys) xs) else true) ≡ true
  rest_same whole = grind (arith, drop_all, length-kept)

  -- where the rest stays, or there is none
  pub changed-kept : ((keep ≡ false) × (length (zip_longest f true false xs ys) ≤ length ys)) ⊎ (keep ≡ true)
      → not same_both ≡ not none_changed
  changed-kept whole =
      ap not (sym (by_words ∙ ap (λ b. same_both && b) (rest_same whole) ∙ and-true same_both))
