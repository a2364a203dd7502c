-- Words written anew: from an iterator, one alone, or cut at a length; and words that are made 0.
use Rattle.std.proofs.Common.{◌≡◌, ℕ, zero, suc, ◌-◌, ◌*◌, ◌%◌, ◌^◌, ◌<◌, ◌≤◌, min, ◌&&◌, nat_lt, List, []}
use Rattle.std.proofs.Common.{◌∷◌, ◌++◌, drop, replicate, length, set, slice_set, bit_and, refl, sym, ap, ◌∙◌, arith}
use Rattle.std.proofs.lemmas.Bool.Decides.{nat_tests}
use Rattle.std.proofs.lemmas.List.{length-set}
use Rattle.bitlanes.specs.Bits.{bit}
use Rattle.bitlanes.specs.BitLaws.{bit-and}
use Rattle.bitwords.specs.Rows.{IsJoined}
use Rattle.bitwords.specs.RowFacts.{has_bit-past, has_bit-same}
use Rattle.fixedbitset.specs.Bits.{Bits, empty, grow, set_block, words_needed, storage_words, words, of_words}
use Rattle.fixedbitset.specs.BitsFacts.{same_bits, length-grow, contains-grow}
use Rattle.fixedbitset.specs.Stored.{IsClean}
use Rattle.fixedbitset.specs.WordsFacts.{length-of_words, contains-of_words, length-words}
use Rattle.fixedbitset.specs.WordsFacts.{has_bit-written, length-set_block, contains-set_block}
use Rattle.fixedbitset.proofs.Growth.{zeros, get_or-zeros, keeps_zeros}
use Rattle.fixedbitset.proofs.Words.{Keeps, keeps, contains_word, viewed_length}

-- ---- from an iterator

-- the next item is written over the first word that is left
pub overwritten : (ys old : List ℕ) (y : ℕ) → length ys < length old
    → set (ys ++ drop (length ys) old) (length ys) y ≡ (ys ++ y ∷ []) ++ drop (suc (length ys)) old
overwritten [] (x ∷ old) y h = refl
overwritten (z ∷ ys) (x ∷ old) y h = ap (λ l. z ∷ l) (overwritten ys old y (omega arith))
overwritten _ [] y h = absurd (omega arith)

drop-zeros : (k m : ℕ) → drop k (zeros m) ≡ zeros (m - k)
drop-zeros zero m = let e : m ≡ m - 0 = omega arith in ap zeros e
drop-zeros (suc k) zero = let e : 0 ≡ 0 - suc k = omega arith in ap zeros e
drop-zeros (suc k) (suc m) = drop-zeros k m ∙ (let e : m - k ≡ suc m - suc k = omega arith in ap zeros e)

-- the bits from `kept` on are cleared
pub settled : (n kept : ℕ) → n < 2 ^ 64 → kept ≤ n → (old new : List ℕ) → length old ≡ storage_words n
    → IsJoined (λ x y. x && y) old (λ p. nat_lt p kept) new → Keeps n new (grow (of_words kept old) n)
settled n kept fits fewer old new long done =
    keeps n new (grow (of_words kept old) n) fits (done.long ∙ long)
    (omega (arith, length-grow (of_words kept old) n, length-of_words kept old))
    (λ p.
    grind (
      arith,
      nat_tests,
      done.bits p,
      done.long,
      long,
      has_bit-past new p,
      contains-of_words kept old p,
      contains-grow (of_words kept old) n p,
    ))

-- the bits past the length are cleared
pub keeps_cut : (n : ℕ) → n < 2 ^ 64 → (old new : List ℕ) → length old ≡ storage_words n
    → IsJoined (λ x y. x && y) old (λ p. nat_lt p n) new → Keeps n new (of_words n old)
keeps_cut n fits old new long done =
    keeps n new (of_words n old) fits (done.long ∙ long) (length-of_words n old)
    (λ p. grind (arith, nat_tests, done.bits p, done.long, long, has_bit-past new p, contains-of_words n old p))

-- the items, and 0 for each word that none came for
pub of_filled : (n : ℕ) (items old : List ℕ) → old ≡ items ++ drop (length items) (replicate (storage_words n) 0)
    → of_words n old ≡ of_words n items
of_filled n items old filled =
    let is : old ≡ items ++ zeros (storage_words n - length items) = filled
    ∙ ap (λ rest. items ++ rest) (drop-zeros (length items) (storage_words n)) in
    same_bits (of_words n old) (of_words n items) (length-of_words n old ∙ sym (length-of_words n items)) (λ p.
    rw (
      contains-of_words n old p,
      contains-of_words n items p,
      is,
      has_bit-same _ items (get_or-zeros items (storage_words n - length items)) p,
    ) refl)

-- ---- one word alone

pub index_needed : (n : ℕ) (ws : List ℕ) (v : Bits) (index : ℕ) → of_words n ws ≡ v → index < length (words v)
    → index < words_needed n
index_needed n ws v index view within = omega (arith, length-words v, viewed_length n ws v view)

-- the word is written with the bits alone that stand below the length
pub keeps_block : (n : ℕ) (ws : List ℕ) (index value mask : ℕ) → IsClean n ws → index < words_needed n
    → ((i : ℕ) → bit mask i ≡ nat_lt i (min (n - 64 * index) 64))
    → Keeps n (set ws index (bit_and value mask)) (set_block (of_words n ws) index value)
keeps_block n ws index value mask clean within masked =
    let v = of_words n ws in
    let long = length-of_words n ws in
    keeps n _ (set_block v index value) clean.fits (length-set ws index _ ∙ clean.count)
    (length-set_block v index value ∙ long) (λ p.
    let written = has_bit-written ws index (bit_and value mask) p (omega (arith, clean.count)) in
    let old = contains_word n ws p clean in
    let past = clean.tail p in
    grind (
      arith,
      nat_tests,
      old,
      past,
      long,
      written,
      bit-and value mask (p % 64),
      masked (p % 64),
      contains-set_block v index value p (rw long within),
    ))

-- ---- words that are all 0

pub zeroed : (n : ℕ) (ws new : List ℕ) → IsClean n ws → new ≡ replicate (length ws) 0 → Keeps n new (empty n)
zeroed n ws new clean zeros_all =
    let are : new ≡ zeros (storage_words n) = zeros_all ∙ ap zeros clean.count in rw are (keeps_zeros n clean.fits)

-- a lane of zeros, word by word
pub four_zeros : (ws : List ℕ) → length ws ≡ 4
    → slice_set (slice_set (slice_set (slice_set ws 0 0) 1 0) 2 0) 3 0 ≡ replicate (length ws) 0
four_zeros [] e = absurd (omega (arith, e))
four_zeros (a ∷ []) e = absurd (omega (arith, e))
four_zeros (a ∷ b ∷ []) e = absurd (omega (arith, e))
four_zeros (a ∷ b ∷ c ∷ []) e = absurd (omega (arith, e))
four_zeros (a ∷ b ∷ c ∷ d ∷ []) e = refl
four_zeros (a ∷ b ∷ c ∷ d ∷ f ∷ ws) e = absurd (omega (arith, e))
