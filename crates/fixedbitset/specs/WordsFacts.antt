-- The values that words stand for, and the words of a value against its positions, for those who call a set.
use Rattle.std.proofs.Common.{get_or-set_same, get_or-set_other, pow_mono, pow_pos, pow-suc, min, ◌≡◌, ℕ, zero, suc}
use Rattle.std.proofs.Common.{◌+◌, ◌-◌, ◌*◌, ◌/◌, ◌%◌, ◌^◌, ◌<◌, ◌≤◌, Bool, true, false, cond, ◌&&◌, ◌==◌, nat_lt}
use Rattle.std.proofs.Common.{nat_le, List, filter, sum_by, length, get_or, set, sym, ap, ◌∙◌, arith, ⊎_elim}
use Rattle.std.specs.List.{range_with_len}
use Rattle.std.specs.Int.{bit_at}
use Rattle.std.proofs.lemmas.Bool.{cases_Bool}
use Rattle.std.proofs.lemmas.Bool.Decides.{nat_tests}
use Rattle.std.proofs.lemmas.List.Elements.{filter-append}
use Rattle.std.proofs.lemmas.List.{ext_get_or, get_or_past}
use Rattle.std.proofs.lemmas.List.Sums.{sum_by-append}
use Rattle.std.proofs.lemmas.List.FromFn.{length-map-range_with_len, get_or-map-range_with_len}
use Rattle.std.proofs.lemmas.Nat.Bits.{same_from_bits_below, bit_at_cat_low, bit_at_cat_high}
use Rattle.std.proofs.lemmas.Nat.Bits.{bit_at-zero, bit_at-lt, bit_at_above, bit_at_lowest}
use Rattle.bitlanes.specs.Bits.{bit}
use Rattle.bitwords.specs.Ascending.{ascending}
use Rattle.bitwords.specs.AscendingFacts.{ascending-cut}
use Rattle.bitwords.specs.CountFacts.{indicator, range-push}
use Rattle.bitwords.specs.Rows.{has_bit}
use Rattle.bitwords.specs.RowFacts.{AreWords, has_bit-at, has_bit-past}
use Rattle.fixedbitset.specs.Numbers.{numbers_below, contains-numbers_below}
use Rattle.fixedbitset.specs.NumbersFacts.{contains-kept}
use Rattle.fixedbitset.specs.Bits.{Bits, contains, asc, number_at, word, words}
use Rattle.fixedbitset.specs.Bits.{words_needed, having, of_words, set_block}
use Rattle.fixedbitset.specs.BitsFacts.{length-pair, contains-pair, contains_below, contains-past, same_bits}

-- ---- the values of words

pub length-having : (n : ℕ) (test : ℕ → Bool) → (having n test).length ≡ n
unfolding having
length-having n test = length-pair n _

pub contains-having : (n : ℕ) (test : ℕ → Bool) (p : ℕ) → contains (having n test) p ≡ (test p && nat_lt p n)
unfolding having
contains-having n test p =
    contains-pair n _ p ∙ grind (arith, contains-kept (numbers_below n) test p, contains-numbers_below n p)

pub length-of_words : (n : ℕ) (ws : List ℕ) → (of_words n ws).length ≡ n
unfolding of_words
length-of_words n ws = length-having n _

pub contains-of_words : (n : ℕ) (ws : List ℕ) (p : ℕ) → contains (of_words n ws) p ≡ (has_bit ws p && nat_lt p n)
unfolding of_words
contains-of_words n ws p = contains-having n (has_bit ws) p

-- ---- the words of a value, by what part of a number the first positions make

abbrev within : ℕ → ℕ → ℕ → Bool
within start width p = nat_le start p && nat_lt p (start + width)

-- of the first n numbers
abbrev part : (ℕ → Bool) → ℕ → ℕ → ℕ → ℕ
part c start width n = sum_by (λ p. 2 ^ (p - start)) (filter (within start width) (filter c (range_with_len 0 n)))

part-suc : (c : ℕ → Bool) (start width n : ℕ)
    → part c start width (suc n) ≡ part c start width n + cond (c n && within start width n) (2 ^ (n - start)) 0
part-suc c start width n =
    let e : 0 + n ≡ n = omega arith in
    ap (λ xs. sum_by (λ p. 2 ^ (p - start)) (filter (within start width) (filter c xs))) (range-push 0 n)
    ∙ simp (e, filter-append, sum_by-append) (grind arith)

-- what part of a number the first n numbers make
record IsPart (c : ℕ → Bool) (start width n x : ℕ) : Type 0 where
  top : x < 2 ^ min (n - start) width
  bits : (i : ℕ) → i < width → bit_at x i ≡ indicator (c (start + i) && nat_lt (start + i) n)

part_is : (c : ℕ → Bool) (start width n : ℕ) → IsPart c start width n (part c start width n)
part_is c start width zero =
    record { top = pow_pos (min (0 - start) width); bits = λ i _. grind (arith, nat_tests, bit_at-zero i) }
part_is c start width (suc n) = rw (part-suc c start width n) (more (part c start width n) (part_is c start width n))
  where
    more : (x : ℕ) → IsPart c start width n x
        → IsPart c start width (suc n) (x + cond (c n && within start width n) (2 ^ (n - start)) 0)
    more x h =
        ⊎_elim
        (λ (inside : (c n && within start width n) ≡ true).
        let j : ℕ = n - start in
        let at : (start ≤ n) × (j < width) × (min (n - start) width ≡ j) × (min (suc n - start) width ≡ suc j) =
        grind (arith, nat_tests) in
        let below : x < 2 ^ j = rw at.2 at h.top in
        let turned : x + 2 ^ j ≡ 1 * 2 ^ j + x = omega arith in
        rw (inside, turned) (record {
          top = rw at.3 (omega (arith, pow-suc 2 j));
          bits = λ i l.
              let same = h.bits i l in
              grind (
                arith,
                nat_tests,
                same,
                bit_at_cat_low 1 j x i,
                bit_at_cat_high 1 j x i below,
                bit_at_lowest 1,
                bit_at_above 1 1 (i - j),
              );
        }))
        (λ (out : (c n && within start width n) ≡ false).
        let e : x + 0 ≡ x = omega arith in
        let longer : 2 ^ min (n - start) width ≤ 2 ^ min (suc n - start) width = pow_mono (omega arith) in
        rw (out, e)
        (record { top = omega (arith, h.top); bits = λ i l. let same = h.bits i l in grind (arith, nat_tests, same) }))
        (cases_Bool (c n && within start width n))

number_at_is : (v : Bits) (start width : ℕ) → IsPart (contains v) start width v.length (number_at v start width)
unfolding number_at asc
number_at_is v start width = part_is (contains v) start width v.length

pub number_at-lt : (v : Bits) (start width : ℕ) → number_at v start width < 2 ^ width
number_at-lt v start width = let longer : 2 ^ min (v.length - start) width ≤ 2 ^ width = pow_mono (omega arith) in
    omega (arith, (number_at_is v start width).top)

pub bit_at-number_at : (v : Bits) (start width i : ℕ) → i < width
    → bit_at (number_at v start width) i ≡ indicator (contains v (start + i))
bit_at-number_at v start width i h =
    let bits = (number_at_is v start width).bits i h in grind (arith, nat_tests, bits, contains_below v (start + i))

pub length-words : (v : Bits) → length (words v) ≡ words_needed v.length
unfolding words
length-words v = length-map-range_with_len (word v) 0 (words_needed v.length)

pub get_or-words : (v : Bits) (k : ℕ) → k < words_needed v.length → get_or (words v) k 0 ≡ word v k
unfolding words
get_or-words v k h = get_or-map-range_with_len (word v) 0 (words_needed v.length) k k 0 h (omega arith)

pub indicator-has_bit : (ws : List ℕ) (k i : ℕ) → i < 64
    → indicator (has_bit ws (64 * k + i)) ≡ bit_at (get_or ws k 0) i
indicator-has_bit ws k i h = rw has_bit-at (grind (arith, nat_tests, bit_at-lt (get_or ws k 0) i))

-- the words have the positions of the value, and no other
pub has_bit-words : (v : Bits) (p : ℕ) → has_bit (words v) p ≡ contains v p
has_bit-words v p =
    let at : 64 * (p / 64) + p % 64 ≡ p = omega arith in
    let here = has_bit-at (words v) (p / 64) (p % 64) (omega arith) in
    let word_bit = bit_at-number_at v (64 * (p / 64)) 64 (p % 64) in
    grind (
      arith,
      nat_tests,
      here,
      at,
      get_or-words v (p / 64),
      word_bit,
      has_bit-past (words v) p,
      length-words v,
      contains_below v p,
    )

pub are_words : (v : Bits) → AreWords (words v)
are_words v k = grind (arith, get_or-words v k, number_at-lt v (64 * k) 64, get_or_past (words v) k 0, length-words v)

-- words with the positions of a value, as many as its length needs, are its words
pub words_is : (v : Bits) (ws : List ℕ) → AreWords ws → length ws ≡ words_needed v.length
    → ((p : ℕ) → p < 64 * length ws → has_bit ws p ≡ contains v p) → ws ≡ words v
words_is v ws are long same =
    ext_get_or 0 _ _ (long ∙ sym (length-words v)) (λ j h.
    same_from_bits_below 64 _ _ (are j) (number_at-lt v (64 * j) 64) (λ i l.
    sym (indicator-has_bit ws j i l) ∙ ap indicator (same (64 * j + i) (omega arith))
    ∙ sym (bit_at-number_at v (64 * j) 64 i l))
    ∙ sym (get_or-words v j (omega (arith, h, long))))

-- the positions of the words, in ascending order, are those of the value
pub words-asc : (v : Bits) → ascending (has_bit (words v)) 0 (64 * length (words v)) ≡ asc v
unfolding asc
words-asc v =
    let room : v.length + (64 * length (words v) - v.length) ≡ 64 * length (words v) = omega (arith, length-words v) in
    ap (ascending (has_bit (words v)) 0) (sym room)
    ∙ ascending-cut (has_bit (words v)) (contains v) 0 v.length (64 * length (words v) - v.length)
    (λ p _ _. has_bit-words v p) (λ p past _. has_bit-words v p ∙ contains-past v p (omega (arith, past)))

-- the value of the words of a value is that value
pub of_words-words : (v : Bits) → of_words v.length (words v) ≡ v
of_words-words v =
    same_bits (of_words v.length (words v)) v (length-of_words _ _)
    (λ p. grind (arith, nat_tests, contains-of_words, has_bit-words, contains_below v p))

-- ---- one word replaced

-- a bit of the word that was written, and of any other one
pub has_bit-written : (ws : List ℕ) (k x p : ℕ) → k < length ws
    → has_bit (set ws k x) p ≡ cond (p / 64 == k) (bit x (p % 64)) (has_bit ws p)
unfolding has_bit
has_bit-written ws k x p inside =
    grind (arith, nat_tests, get_or-set_same ws k x 0 inside, get_or-set_other ws k (p / 64) x 0)

pub length-set_block : (v : Bits) (index value : ℕ) → (set_block v index value).length ≡ v.length
unfolding set_block
length-set_block v index value = length-of_words v.length _

pub contains-set_block : (v : Bits) (index value p : ℕ) → index < words_needed v.length
    → contains (set_block v index value) p
    ≡ (cond (p / 64 == index) (bit value (p % 64)) (contains v p) && nat_lt p v.length)
unfolding set_block
contains-set_block v index value p inside =
    contains-of_words v.length (set (words v) index value) p
    ∙ rw (has_bit-written (words v) index value p (omega (arith, length-words v)), has_bit-words)

-- what a caller needs of the values of words
pub ruleset facts =
    (length-of_words, length-set_block, contains-of_words, contains-set_block, of_words-words, length-words)
