-- The least position that two rows both have, from one on: the next position of one row that has their words joined.
use Rattle.std.proofs.Common.{◌≡◌, ◌≢◌, ℕ, ◌+◌, ◌-◌, ◌*◌, ◌/◌, ◌%◌, ◌^◌, ◌<◌, Bool, true, ◌&&◌, List, length}
use Rattle.std.proofs.Common.{get_or, map, min, take, drop, bit_and, refl, sym, ap, ◌∙◌, arith, ⊎_elim, ◌≤◌}
use Rattle.std.specs.Simd.Lanes.{zip2}
use Rattle.std.proofs.lemmas.Bool.{cases_lt}
use Rattle.std.proofs.lemmas.List.{get_or-map, get_or-drop, get_or_past, length-map, length-drop}
use Rattle.std.proofs.lemmas.Nat.{and_comm, and_mask}
use Rattle.std.proofs.lemmas.Simd.{get_or-zip2}
use Rattle.bitlanes.specs.BitLaws.{laws_of_and}
use Rattle.bitlanes.specs.Search.{IsFirstOne, IsNextOne, AreZeros, AreZerosFrom}
use Rattle.bitlanes.specs.Word.{IsLowestBit}
use Rattle.bitwords.specs.Neighbours.{IsNext, NonePasses}
use Rattle.bitwords.specs.Rows.{has_bit, bit_test, bits_test}
use Rattle.bitwords.specs.RowFacts.{AreWords}
use Rattle.bitwords.proofs.Neighbouring.{own_bit, own_next, later_next, none_later}
use Rattle.bitwords.proofs.TwoRows.{longest_of_both, AreWords-longest, has_bit-longest}
use Rattle.bitwords.proofs.Written.{slice_rest, length-both}

-- how many words both rows have behind place n
pub length_behind : (xs ys : List ℕ) (n : ℕ)
    → length (zip2 bit_and (take (length xs - n) (drop n xs)) (take (length ys - n) (drop n ys)))
    ≡ min (length xs) (length ys) - n
length_behind xs ys n =
    length-both bit_and _ _ ∙ rw (slice_rest n xs, slice_rest n ys) (omega (arith, length-drop n xs, length-drop n ys))

module _ (xs ys : List ℕ) (words_xs : AreWords xs) (words_ys : AreWords ys) where
  abbrev both : List ℕ
  both = zip2 bit_and xs ys

  abbrev common : ℕ
  common = min (length xs) (length ys)

  abbrev shares : ℕ → Bool
  shares = bits_test (λ x y. x && y) xs ys

  are_both : AreWords both
  are_both = rw (← longest_of_both bit_and xs ys) (AreWords-longest laws_of_and xs ys words_xs words_ys)

  tells : (p : ℕ) → bit_test (λ y. true && y) both p ≡ shares p
  unfolding bit_test
  tells p = ap (λ ws. has_bit ws p) (sym (longest_of_both bit_and xs ys))
      ∙ has_bit-longest laws_of_and xs ys words_xs words_ys p

  -- what is told of the one row is told of the two
  shared : (from p : ℕ) → IsNext (bit_test (λ y. true && y) both) from (64 * length both) p
      → IsNext shares from (64 * common) p
  shared from p next = record {
    after = next.after;
    below = omega (arith, next.below, length-both bit_and xs ys);
    passes = sym (tells p) ∙ next.passes;
    none = λ i after before. sym (tells i) ∙ next.none i after before;
  }

  -- a word of it, joined with all ones
  under_all : (k : ℕ) → get_or both k 0 ≡ bit_and (2 ^ 64 - 1) (get_or both k 0)
  under_all k = omega (arith, and_comm (2 ^ 64 - 1) (get_or both k 0), and_mask (get_or both k 0) 64, are_both k)

  word_of_both : (k w : ℕ) → k < common → w ≡ bit_and (get_or xs k 0) (get_or ys k 0)
      → w ≡ bit_and (2 ^ 64 - 1) (get_or both k 0)
  word_of_both k w within is = is ∙ sym (get_or-zip2 bit_and xs ys k 0 0 0 (omega arith) (omega arith)) ∙ under_all k

  -- the words behind place n
  module _ (n : ℕ) where
    abbrev behind : List ℕ
    behind = zip2 bit_and (take (length xs - n) (drop n xs)) (take (length ys - n) (drop n ys))

    word_behind : (k : ℕ) → n + k < common → get_or behind k 0 ≡ bit_and (get_or xs (n + k) 0) (get_or ys (n + k) 0)
    word_behind k within =
        rw (
          slice_rest n xs,
          slice_rest n ys,
        ) (get_or-zip2 bit_and (drop n xs) (drop n ys) k 0 0 0 (omega (arith, length-drop n xs))
        (omega (arith, length-drop n ys))
        ∙ rw (get_or-drop n xs k 0, get_or-drop n ys k 0) refl)

    pub one_behind : (k : ℕ) → IsFirstOne behind k → bit_and (get_or xs (n + k) 0) (get_or ys (n + k) 0) ≢ 0
    one_behind k word zero = word.one (word_behind k (omega (arith, word.within, length_behind xs ys n)) ∙ zero)

    at_behind : (k : ℕ) → n + k < common → get_or (map (bit_and (2 ^ 64 - 1)) both) (n + k) 0 ≡ get_or behind k 0
    at_behind k within =
        get_or-map (bit_and (2 ^ 64 - 1)) both (n + k) 0 0 (omega (arith, within, length-both bit_and xs ys))
        ∙ sym (under_all (n + k))
        ∙ get_or-zip2 bit_and xs ys (n + k) 0 0 0 (omega arith) (omega arith)
        ∙ sym (word_behind k within)

    zero_behind : (m i : ℕ) → ((k : ℕ) → k < m → get_or behind k 0 ≡ 0) → n ≤ i → i < n + m → i < common
        → get_or (map (bit_and (2 ^ 64 - 1)) both) i 0 ≡ 0
    zero_behind m i zeros from before within =
        let at : n + (i - n) ≡ i = omega arith in
        ap (λ j. get_or (map (bit_and (2 ^ 64 - 1)) both) j 0) (sym at) ∙ at_behind (i - n) (omega arith)
        ∙ zeros (i - n) (omega arith)

    first_behind : (k : ℕ) → IsFirstOne behind k → IsNextOne (map (bit_and (2 ^ 64 - 1)) both) n (n + k)
    first_behind k word =
        let within : n + k < common = omega (arith, word.within, length_behind xs ys n) in
        record {
          after = omega arith;
          within = omega (arith, within, length-map both (bit_and (2 ^ 64 - 1)), length-both bit_and xs ys);
          one = λ zero. word.one (sym (at_behind k within) ∙ zero);
          zeros =
              λ i from before. zero_behind k i (λ j below. word.zeros j (omega arith) below) from before (omega arith);
        }

    none_behind : AreZeros behind → AreZerosFrom (map (bit_and (2 ^ 64 - 1)) both) n
    none_behind zeros i from =
        ⊎_elim
        (λ (within : i < common). zero_behind (i + 1) i (λ j _. zeros j (omega arith)) from (omega arith) within)
        (λ (past : common ≤ i).
        get_or_past _ i 0 (omega (arith, past, length-map both (bit_and (2 ^ 64 - 1)), length-both bit_and xs ys)))
        (cases_lt i common)

  -- what the word of `from` tells, moved down so that the bit of `from` is its lowest
  module _ (from w : ℕ) (within : from < 64 * common)
      (is : w ≡ bit_and (get_or xs (from / 64) 0) (get_or ys (from / 64) 0)) where
    own : w ≡ bit_and (2 ^ 64 - 1) (get_or both (from / 64) 0)
    own = word_of_both (from / 64) w (omega arith) is

    pub shared_bit : (j : ℕ) → IsLowestBit (w / 2 ^ (from % 64)) j → from % 64 + j < 64
    shared_bit j low = own_bit laws_of_and refl both are_both from w own j low

    pub own_shared : (j : ℕ) → IsLowestBit (w / 2 ^ (from % 64)) j → IsNext shares from (64 * common) (from + j)
    own_shared j low =
        shared from (from + j) (own_next laws_of_and refl both are_both from w own j low
        (omega (arith, within, length-both bit_and xs ys)))

    module _ (zero : w / 2 ^ (from % 64) ≡ 0) where
      abbrev next_word : ℕ
      next_word = from / 64 + 1

      pub later_shared : (k v j : ℕ) → IsFirstOne (behind next_word) k
          → v ≡ bit_and (get_or xs (next_word + k) 0) (get_or ys (next_word + k) 0) → IsLowestBit v j
          → IsNext shares from (64 * common) (64 * (next_word + k) + j)
      later_shared k v j word word_is low =
          let here : next_word + k < common = omega (arith, word.within, length_behind xs ys next_word) in
          shared from _ (later_next laws_of_and refl both are_both from w own zero (next_word + k) v
          (word_of_both (next_word + k) v here word_is) j (first_behind next_word k word) low)

      pub none_shared : AreZeros (behind next_word) → NonePasses shares from (64 * common)
      none_shared zeros i after below =
          sym (tells i) ∙ none_later laws_of_and refl both are_both from w own zero (none_behind next_word zeros) i
          after (omega (arith, below, length-both bit_and xs ys))
