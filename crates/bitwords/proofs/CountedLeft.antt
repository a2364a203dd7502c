-- How many positions a row of words has: by its ends, of inverted words, and of words joined with others.
use Rattle.std.proofs.Common.{◌≡◌, ℕ, zero, suc, ◌+◌, ◌-◌, ◌*◌, ◌/◌, ◌%◌, ◌^◌, ◌<◌, ◌≤◌, Bool, true, false}
use Rattle.std.proofs.Common.{not, cond, min, max, List, [], ◌∷◌, ◌++◌, length, map, take, drop, get_or, sum_by}
use Rattle.std.proofs.Common.{refl, sym, ap, ◌∙◌, arith, length-append, length-take-le, ⊎_elim}
use Rattle.std.specs.Int.{bit_not, w64}
use Rattle.std.specs.Int.Count.{ones}
use Rattle.std.proofs.lemmas.Bool.{cases_lt}
use Rattle.std.proofs.lemmas.Bool.Decides.{nat_tests}
use Rattle.std.proofs.lemmas.List.{get_or-take, take_all, drop_more}
use Rattle.std.proofs.lemmas.List.Sums.{sum_by-cons}
use Rattle.bitlanes.specs.Bits.{bit}
use Rattle.bitlanes.specs.Ops.{IsWordOp}
use Rattle.bitlanes.specs.Words.{lane_steps}
use Rattle.bitwords.specs.Ascending.{ascending}
use Rattle.bitwords.specs.AscendingFacts.{ascending-append}
use Rattle.bitwords.specs.BesideFacts.{has_bit-beside_within}
use Rattle.bitwords.specs.CountFacts.{indicator, count-zero, count-suc, count-same, count-append, count-le}
use Rattle.bitwords.specs.RowFacts.{AreWords, has_bit-at, has_bit-inverted}
use Rattle.bitwords.specs.Rows.{has_bit, count_below, bit_test, bits_test}
use Rattle.bitwords.specs.Steps.{both_steps, beside_steps}
use Rattle.bitwords.specs.WalkedWords.{beside, ones_from, held_items}
use Rattle.bitwords.proofs.Counted.{ones-bits, row-ones}
use Rattle.bitwords.proofs.OnesFrom.{has_bit-first, has_bit-later, has_bit-last, has_bit-before}

-- how many positions a row has
abbrev pub row_count : List ℕ → ℕ
row_count ws = count_below (has_bit ws) (64 * length ws)

pub count-cons : (w : ℕ) (ws : List ℕ) → w < 2 ^ 64 → row_count (w ∷ ws) ≡ ones w + row_count ws
count-cons w ws fits =
    let more : 64 * suc (length ws) ≡ 64 + 64 * length ws = omega arith in
    omega (
      arith,
      ap (count_below (has_bit (w ∷ ws))) more,
      count-append (has_bit (w ∷ ws)) 64 (64 * length ws),
      count-same (has_bit (w ∷ ws)) (bit w) 64 (has_bit-first w ws),
      ones-bits 64 w fits,
      count-same (λ i. has_bit (w ∷ ws) (64 + i)) (has_bit ws) (64 * length ws)
          (λ i below. has_bit-later w ws (64 + i) i (omega arith)),
    )

count-push : (ws : List ℕ) (w : ℕ) → w < 2 ^ 64 → row_count (ws ++ w ∷ []) ≡ row_count ws + ones w
count-push ws w fits =
    let more : 64 * length (ws ++ w ∷ []) ≡ 64 * length ws + 64 = omega (arith, length-append ws (w ∷ [])) in
    omega (
      arith,
      ap (count_below (has_bit (ws ++ w ∷ []))) more,
      count-append (has_bit (ws ++ w ∷ [])) (64 * length ws) 64,
      count-same (has_bit (ws ++ w ∷ [])) (has_bit ws) (64 * length ws) (has_bit-before ws w),
      count-same (λ i. has_bit (ws ++ w ∷ []) (64 * length ws + i)) (bit w) 64
          (λ i below. has_bit-last ws w (64 * length ws + i) i refl below),
      ones-bits 64 w fits,
    )

-- as many pass as there are numbers, each moved up, that do
length-moved : (c : ℕ → Bool) (low n : ℕ) → length (ascending (λ i. c (i - low)) low n) ≡ count_below c n
length-moved c low zero = sym (count-zero c)
length-moved c low (suc n) =
    let more : suc n ≡ n + 1 = omega arith in
    let here : low + n - low ≡ n = omega arith in
    omega (
      arith,
      ap (λ m. length (ascending (λ i. c (i - low)) low m)) more,
      ap length (ascending-append (λ i. c (i - low)) low n 1),
      length-append (ascending (λ i. c (i - low)) low n) (ascending (λ i. c (i - low)) (low + n) 1),
      length-moved c low n,
      single (c (low + n - low)),
      ap (λ i. indicator (c i)) here,
      count-suc c n,
    )
  where
    single : (b : Bool) → length (cond b ((low + n) ∷ []) []) ≡ indicator b
    single true = refl
    single false = refl

-- those of the words between the ends, and of the ends
pub count-held : (at front : ℕ) (middle : List ℕ) (back : ℕ) → front < 2 ^ 64 → back < 2 ^ 64
    → length (held_items at front middle back) ≡ row_count middle + sum_by ones (front ∷ back ∷ [])
unfolding ones_from
count-held at front middle back fits fits_back =
    let row : List ℕ = front ∷ (middle ++ back ∷ []) in
    omega (
      arith,
      length-moved (has_bit row) at (64 * length row),
      count-cons front (middle ++ back ∷ []) fits,
      count-push middle back fits_back,
      sum_by-cons ones front (back ∷ []),
      sum_by-cons ones back [],
    )

count-not : (c : ℕ → Bool) (n : ℕ) → count_below (λ p. not (c p)) n + count_below c n ≡ n
count-not c zero = omega (arith, count-zero c, count-zero (λ p. not (c p)))
count-not c (suc n) = grind (arith, count-suc c n, count-suc (λ p. not (c p)) n, count-not c n)

-- those of the inverted words are all but those of the words
pub count-inverted : (ws : List ℕ) → AreWords ws
    → count_below (has_bit (map (bit_not w64) ws)) (64 * length ws) + sum_by ones ws ≡ 64 * length ws
count-inverted ws are =
    omega (
      arith,
      count-same (has_bit (map (bit_not w64) ws)) (λ p. not (has_bit ws p)) (64 * length ws)
          (λ p below. has_bit-inverted ws p are below),
      count-not (has_bit ws) (64 * length ws),
      row-ones ws are,
    )

-- a row has no more ones than bits
pub ones-le : (ws : List ℕ) → AreWords ws → sum_by ones ws ≤ 64 * length ws
ones-le ws are = omega (arith, row-ones ws are, count-le (has_bit ws) (64 * length ws))

-- the ones of n words from word k on are the positions that these have
pub ones-between : (ws : List ℕ) → AreWords ws → (n k : ℕ) → k + n ≤ length ws
    → sum_by ones (take n (drop k ws)) + count_below (has_bit ws) (64 * k) ≡ count_below (has_bit ws) (64 * (k + n))
ones-between ws are zero k le =
    let e : k + 0 ≡ k = omega arith in omega (arith, ap (λ j. count_below (has_bit ws) (64 * j)) e)
ones-between ws are (suc n) k le =
    let e : k + suc n ≡ k + 1 + n = omega arith in
    let next : 64 * (k + 1) ≡ 64 * k + 64 = omega arith in
    omega (
      arith,
      ap (λ xs. sum_by ones (take (suc n) xs)) (drop_more ws k 0 (omega arith)),
      sum_by-cons ones (get_or ws k 0) (take n (drop (k + 1) ws)),
      ones-bits 64 (get_or ws k 0) (are k),
      count-same _ (bit (get_or ws k 0)) 64 (has_bit-at ws k),
      ap (count_below (has_bit ws)) next,
      count-append (has_bit ws) (64 * k) 64,
      ones-between ws are n (k + 1) (omega arith),
      ap (λ j. count_below (has_bit ws) (64 * j)) e,
    )

-- they are no more than the bits of these words
pub ones-between-le : (ws : List ℕ) → AreWords ws → (n k : ℕ) → k + n ≤ length ws
    → sum_by ones (take n (drop k ws)) ≤ 64 * n
ones-between-le ws are n k le =
    let more : 64 * (k + n) ≡ 64 * k + 64 * n = omega arith in
    omega (
      arith,
      ones-between ws are n k le,
      ap (count_below (has_bit ws)) more,
      count-append (has_bit ws) (64 * k) (64 * n),
      count-le (λ i. has_bit ws (64 * k + i)) (64 * n),
    )

-- a test that passes by another one: u where that passes, and v where it does not
count-by : (c d : ℕ → Bool) (u v : Bool) → ((p : ℕ) → d p ≡ cond (c p) u v) → (n : ℕ)
    → count_below d n + cond v (count_below c n) 0 ≡ cond u (count_below c n) 0 + cond v n 0
count-by c d u v same zero = grind (arith, count-zero c, count-zero d)
count-by c d u v same (suc n) = grind (arith, count-suc c n, count-suc d n, same n, count-by c d u v same n)

module _ {f : ℕ → ℕ → ℕ} {t : Bool → Bool → Bool} {keep also : Bool} (law : IsWordOp f t keep also)
    (ws : List ℕ) (are : AreWords ws) where
  keeps_one : bit (f 1 1) 0 ≡ t true true
  keeps_one = grind (arith, law.by_bits 1 1 0 (omega arith) (omega arith))

  -- a bit of both words is kept exactly if that of two ones is
  pub keeps_ones : (x : ℕ) → x ≡ f 1 1 → x % 2 ≡ 1 → t true true ≡ true
  keeps_ones x is odd = grind (arith, nat_tests, keeps_one, is, odd)

  pub drops_ones : (x : ℕ) → x ≡ f 1 1 → x % 2 ≡ 0 → t true true ≡ false
  drops_ones x is even = grind (arith, nat_tests, keeps_one, is, even)

  by_bit : (u v : Bool) → t true true ≡ u → keep ≡ v → (p : ℕ)
      → bit_test (t true) ws p ≡ cond (has_bit ws p) u v
  unfolding bit_test
  by_bit u v is_u is_v p = grind (arith, is_u, is_v, law.of_first true)

  -- of n words from word k on, by how many ones they have
  pub count-kept : (k n o : ℕ) → k + n ≤ length ws → o ≡ sum_by ones (take n (drop k ws)) → (u v : Bool)
      → t true true ≡ u → keep ≡ v
      → cond u o 0 + cond v (64 * n - o) 0 + count_below (bit_test (t true) ws) (64 * k)
      ≡ count_below (bit_test (t true) ws) (64 * (k + n))
  count-kept k n o le is u v is_u is_v =
      let more : 64 * (k + n) ≡ 64 * k + 64 * n = omega arith in
      grind (
        arith,
        is,
        ones-between ws are n k le,
        count-by (has_bit ws) (bit_test (t true) ws) u v (by_bit u v is_u is_v) (64 * k),
        count-by (has_bit ws) (bit_test (t true) ws) u v (by_bit u v is_u is_v) (64 * (k + n)),
        ones-between-le ws are n k le,
      )

-- the bits of the first words
has_bit-take : (ws : List ℕ) (m p : ℕ) → p / 64 < m → has_bit (take m ws) p ≡ has_bit ws p
unfolding has_bit
has_bit-take ws m p below = ap (λ w. bit w (p % 64)) (get_or-take m ws (p / 64) 0 below)

-- a row cut to no more words than another one has: within those it has the same bits
has_bit-cut : (n : ℕ) (ws : List ℕ) (p : ℕ) → p / 64 < n → has_bit (take (min n (length ws)) ws) p ≡ has_bit ws p
has_bit-cut n ws p below =
    ⊎_elim
    (has_bit-take ws (min n (length ws)) p)
    (λ (past : min n (length ws) ≤ p / 64).
    let whole : take (min n (length ws)) ws ≡ ws = take_all (min n (length ws)) ws (omega arith) in
    ap (λ xs. has_bit xs p) whole)
    (cases_lt (p / 64) (min n (length ws)))

module _ {f : ℕ → ℕ → ℕ} {t : Bool → Bool → Bool} {keep also : Bool} (law : IsWordOp f t keep also)
    (words others : List ℕ) (are_words : AreWords words) (are_others : AreWords others) (common : ℕ)
    (is : common ≡ min (length words) (length others)) where
  -- words joined with others, which are cut to no more than they are
  pub count-beside : count_below (bits_test t words (take common others))
      (64 * max (length words) (length (take common others)))
      ≡ count_below (has_bit (beside f words others)) (64 * length words)
  unfolding bits_test
  count-beside =
      let most : 64 * max (length words) (length (take common others)) ≡ 64 * length words =
      omega (arith, is, length-take-le common others (omega (arith, is))) in
      ap (count_below (bits_test t words (take common others))) most
      ∙ count-same (bits_test t words (take common others)) (has_bit (beside f words others)) (64 * length words)
      (λ p below.
      let within : p / 64 < length words = omega arith in
      ap (t (has_bit words p)) (ap (λ n. has_bit (take n others) p) is ∙ has_bit-cut (length words) others p within)
      ∙ sym (has_bit-beside_within law words others are_words are_others p within))

-- over a row and the first words of another one, as far as both go: one step more than lanes at most
pub beside-steps : (keep also : Bool) (n common : ℕ) (others : List ℕ) → common ≡ min n (length others)
    → both_steps keep also n (length (take common others)) ≤ lane_steps n + 1
beside-steps keep also n common others is =
    let long : length (take common others) ≡ common = length-take-le common others (omega (arith, is)) in
    grind (arith, long, is)

-- exactly those over the first words, and over the rest where it counts
pub beside-exact : (keep also : Bool) (n common : ℕ) (others : List ℕ) → common ≡ min n (length others)
    → both_steps keep also n (length (take common others)) ≡ beside_steps keep n (length others)
beside-exact keep also n common others is =
    let long : length (take common others) ≡ common = length-take-le common others (omega (arith, is)) in
    grind (arith, long, is)
