-- The ones of a word and of a row of words, counted as positions. And the positions of a range that pass, counted part
-- by part.
use Rattle.std.proofs.Common.{◌≡◌, ℕ, zero, suc, ◌+◌, ◌*◌, ◌/◌, ◌%◌, ◌^◌, ◌<◌, ◌≤◌, ◌==◌, List, [], ◌∷◌, length}
use Rattle.std.proofs.Common.{take, get_or, sum_by, refl, sym, ap, ◌∙◌, arith, pow-suc, div-lt_iff_lt-mul}
use Rattle.std.proofs.Common.{take-suc, take_all, ◌-◌, Bool, true, false, ◌&&◌, nat_lt, drop, map, ⊎_elim}
use Rattle.std.specs.List.{list_all}
use Rattle.std.specs.Int.{bit_at}
use Rattle.std.specs.Int.Count.{ones}
use Rattle.std.proofs.lemmas.Bool.Decides.{nat_tests}
use Rattle.std.proofs.lemmas.List.Sums.{sum_by-cons, sum_by-append}
use Rattle.std.proofs.lemmas.Nat.{shr_split, ones_cat, pow_pos, zero_from_ones}
use Rattle.std.proofs.lemmas.Nat.Bits.{bit_at_cat_low}
use Rattle.bitlanes.specs.Bits.{bit}
use Rattle.bitwords.specs.Rows.{has_bit, count_below, in_range, bit_test}
use Rattle.bitwords.specs.CountFacts.{indicator, count-zero, count-suc, count-same, count-append}
use Rattle.bitwords.specs.CountFacts.{count-none, count-shorter, count-mono, count-in_range}
use Rattle.bitwords.specs.RowFacts.{AreWords, has_bit-at, before_range, past_range}
use Rattle.std.proofs.lemmas.List.{drop_more}
use Rattle.bitlanes.specs.Ops.{IsWordOp}
use Rattle.bitwords.specs.Cuts.{IsCut}
use Rattle.bitwords.proofs.Parts.{masked_whole}

ones_below_two : (q : ℕ) → q < 2 → ones q ≡ indicator (q % 2 == 1)
unfolding ones
ones_below_two q h = grind arith

pub no_ones : ones 0 ≡ 0
unfolding ones
no_ones = refl

-- the ones of a number, counted bit by bit
pub ones-bits : (w x : ℕ) → x < 2 ^ w → ones x ≡ count_below (bit x) w
ones-bits zero x h = let e : x ≡ 0 = omega arith in ap ones e ∙ no_ones ∙ sym (count-zero (bit x))
ones-bits (suc w) x h =
    let q : ℕ = x / 2 ^ w in
    let r : ℕ = x % 2 ^ w in
    let pos : 0 < 2 ^ w = pow_pos w in
    let small : r < 2 ^ w = omega arith in
    let two : q < 2 = (div-lt_iff_lt-mul pos).1 (omega (arith, pow-suc 2 w)) in
    let is : x ≡ q * 2 ^ w + r = sym (shr_split x w) in
    omega (
      arith,
      ap ones is,
      ones_cat w q r small,
      ones_below_two q two,
      count-same (bit r) (bit x) w (λ i l. ap (λ y. y == 1) (sym (ap (λ y. bit_at y i) is ∙ bit_at_cat_low q w r i l))),
      ones-bits w r small,
      count-suc (bit x) w,
    )

-- a number has no ones exactly if it is 0
pub ones-zero : (x : ℕ) → (x == 0) ≡ (ones x == 0)
ones-zero x = grind (arith, nat_tests, zero_from_ones, no_ones)

-- all words are 0 exactly if they have no ones
pub all-ones : (ws : List ℕ) → list_all (λ w. w == 0) ws ≡ (sum_by ones ws == 0)
all-ones [] = refl
all-ones (x ∷ xs) = grind (arith, nat_tests, ones-zero x, all-ones xs, sum_by-cons ones x xs)

-- the ones of the first n words are the positions that they have
first-ones : (ws : List ℕ) → AreWords ws → (n : ℕ) → n ≤ length ws
    → sum_by ones (take n ws) ≡ count_below (has_bit ws) (64 * n)
first-ones ws words zero le = sym (count-zero (has_bit ws))
first-ones ws words (suc n) le =
    let e : 64 * suc n ≡ 64 * n + 64 = omega arith in
    omega (
      arith,
      ap (sum_by ones) (take-suc ws n 0 (omega arith)),
      sum_by-append ones (take n ws) (get_or ws n 0 ∷ []),
      first-ones ws words n (omega arith),
      ones-bits 64 (get_or ws n 0) (words n),
      count-same _ (bit (get_or ws n 0)) 64 (has_bit-at ws n),
      ap (count_below (has_bit ws)) e,
      count-append (has_bit ws) (64 * n) 64,
    )

-- the ones of a row are the positions that it has
pub row-ones : (ws : List ℕ) → AreWords ws → sum_by ones ws ≡ count_below (has_bit ws) (64 * length ws)
row-ones ws words =
    ap (sum_by ones) (sym (take_all (length ws) ws (omega arith))) ∙ first-ones ws words (length ws) (omega arith)

-- a part of a count is 0 exactly if the count stays
pub sum_is_start : (part start end : ℕ) → part + start ≡ end → (part == 0) ≡ (end == start)
sum_is_start part start end e = grind (arith, nat_tests)

module _ {f : ℕ → ℕ → ℕ} {t : Bool → Bool → Bool} {keep take_right : Bool} (law : IsWordOp f t keep take_right)
    (drops : take_right ≡ false) (ws : List ℕ) (words : AreWords ws) where
  -- a bit passes only where the range has its position
  tested : (r y : Bool) → t r y ≡ (r && t true y)
  tested r y = grind (arith, law.of_second y)

  -- the bits of word k, joined with the mask of a range within it: those of the range that pass
  pub word-bits : (k mask start end : ℕ) → mask < 2 ^ 64
      → ((i : ℕ) → bit mask i ≡ (nat_lt i 64 && in_range start end (64 * k + i)))
      → (i : ℕ) → i < 64
      → bit (f mask (get_or ws k 0)) i ≡ (in_range start end (64 * k + i) && bit_test (t true) ws (64 * k + i))
  unfolding bit_test
  word-bits k mask start end fits masked i h =
      grind (arith, nat_tests, law.by_bits mask (get_or ws k 0) i fits (words k), masked i, has_bit-at ws k i h, tested)

  -- of a range within word k, which is joined with the mask of the range
  pub count-word : (k mask start end : ℕ) → mask < 2 ^ 64 → 64 * k ≤ start → start ≤ end → end ≤ 64 * (k + 1)
      → ((i : ℕ) → bit mask i ≡ (nat_lt i 64 && in_range start end (64 * k + i)))
      → ones (f mask (get_or ws k 0)) + count_below (bit_test (t true) ws) start
      ≡ count_below (bit_test (t true) ws) end
  count-word k mask start end fits from order to masked =
      let c : ℕ → Bool = bit_test (t true) ws in
      let d : ℕ → Bool = λ p. in_range start end p && c p in
      let whole : 64 * (k + 1) ≡ 64 * k + 64 = omega arith in
      omega (
        arith,
        ones-bits 64 (f mask (get_or ws k 0)) (law.fits mask (get_or ws k 0) fits (words k)),
        count-same _ (λ i. d (64 * k + i)) 64 (word-bits k mask start end fits masked),
        ap (count_below d) whole,
        count-append d (64 * k) 64,
        count-none d (64 * k) (λ p h. ap (λ b. b && c p) (before_range start end p (omega arith))),
        count-shorter d end (64 * (k + 1)) to (λ p h _. ap (λ b. b && c p) (past_range start end p h)),
        count-in_range c start end order,
      )

  -- of word k, whole
  pub count-whole : (k : ℕ) → ones (f (2 ^ 64 - 1) (get_or ws k 0)) + count_below (bit_test (t true) ws) (64 * k)
      ≡ count_below (bit_test (t true) ws) (64 * (k + 1))
  count-whole k =
      count-word k (2 ^ 64 - 1) (64 * k) (64 * (k + 1)) (omega arith) (omega arith) (omega arith) (omega arith)
      (masked_whole k)

  -- of n words from word k on
  pub count-wholes : (n k : ℕ) → k + n ≤ length ws
      → sum_by ones (map (f (2 ^ 64 - 1)) (take n (drop k ws))) + count_below (bit_test (t true) ws) (64 * k)
      ≡ count_below (bit_test (t true) ws) (64 * (k + n))
  count-wholes zero k h =
      let e : k + 0 ≡ k = omega arith in omega (arith, ap (λ j. count_below (bit_test (t true) ws) (64 * j)) e)
  count-wholes (suc n) k h =
      let e : k + suc n ≡ k + 1 + n = omega arith in
      omega (
        arith,
        ap (λ xs. sum_by ones (map (f (2 ^ 64 - 1)) (take (suc n) xs))) (drop_more ws k 0 (omega arith)),
        sum_by-cons ones (f (2 ^ 64 - 1) (get_or ws k 0)) (map (f (2 ^ 64 - 1)) (take n (drop (k + 1) ws))),
        count-whole k,
        count-wholes n (k + 1) (omega arith),
        ap (λ j. count_below (bit_test (t true) ws) (64 * j)) e,
      )

-- between the cuts there are as many as in the whole words
pub count-edges : (start end low high : ℕ) → IsCut start end low high → (c : ℕ → Bool)
    → count_below c (64 * (high / 64)) + count_below c low ≡ count_below c (64 * (low / 64)) + count_below c high
count-edges start end low high is c =
    ⊎_elim
    (λ (past : low ≡ end). let same : high ≡ low = omega (arith, past, is.middle, is.last) in rw same (omega arith))
    (λ (edges : (low % 64 ≡ 0) × (high % 64 ≡ 0)).
    let a : 64 * (low / 64) ≡ low = omega (arith, edges.0) in
    let b : 64 * (high / 64) ≡ high = omega (arith, edges.1) in rw (a, b) (omega arith))
    is.whole

-- ---- a count that stays over each of three parts

-- over the whole words it stays exactly if it does between the cuts
pub same-between : (start end low high : ℕ) → IsCut start end low high → (c : ℕ → Bool)
    → (count_below c (64 * (high / 64)) == count_below c (64 * (low / 64))) ≡ (count_below c high == count_below c low)
same-between start end low high is c = grind (arith, nat_tests, count-edges start end low high is c)

-- where it grows between two places, it grows over all
pub grows_within : (c : ℕ → Bool) (start low high end : ℕ) → start ≤ low → low ≤ high → high ≤ end
    → (count_below c high == count_below c low) ≡ false → false ≡ (count_below c end == count_below c start)
grows_within c start low high end p q r e =
    grind (arith, nat_tests, count-mono c start low p, count-mono c low high q, count-mono c high end r)

-- where it stays over the first two parts, the third one decides
pub stays_upto : (a b x d : ℕ) → true ≡ (b == a) → true ≡ (x == b) → (d == x) ≡ (d == a)
stays_upto a b x d p q = grind (arith, nat_tests)
