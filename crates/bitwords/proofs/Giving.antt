-- What the positions of a word become, as they are given from the lowest on.
use Rattle.std.proofs.Common.{◌≡◌, ℕ, zero, suc, ◌+◌, ◌-◌, ◌%◌, ◌^◌, ◌<◌, ◌≤◌, ◌==◌, Bool, true}
use Rattle.std.proofs.Common.{false, cond, List, [], ◌∷◌, ◌++◌, inl, inr, ◌⊎◌, length, take}
use Rattle.std.proofs.Common.{drop, get_or, slice_set, map, refl, sym, ap, ◌∙◌, arith, bit_and}
use Rattle.std.specs.Int.{w64, trailing_zeros}
use Rattle.std.specs.Int.Count.{ones}
use Rattle.std.proofs.lemmas.List.{drop-drop, get_or-drop, get_or-take, ext_get_or, length-take-le, length-drop}
use Rattle.std.proofs.lemmas.List.{get_or-set_same, get_or-set_other, get_or_append_left, get_or-append-add}
use Rattle.std.proofs.lemmas.List.{length-map, drop-map, get_or-map}
use Rattle.std.proofs.lemmas.Bool.{cases_eq}
use Rattle.std.proofs.lemmas.Bool.Decides.{leb_tells}
use Rattle.std.proofs.lemmas.Slice.{take-put_mid}
use borrow.Rule.Slice.PartMut.{put_mid}
use lib.Dec.{leb}
use Rattle.std.proofs.lemmas.Nat.Bits.{bit_at-zero, bit_at-trailing_zeros}
use Rattle.bitlanes.specs.Bits.{bit}
use Rattle.bitlanes.specs.Word.{IsLowestBit, ClearsBit}
use Rattle.bitlanes.proofs.Lowest.{clears_lowest}
use Rattle.bitwords.specs.Ascending.{ascending}
use Rattle.bitwords.specs.AscendingFacts.{ascending-none, ascending-first, ascending-same, length-ascending}
use Rattle.bitwords.specs.AscendingFacts.{length-count}
use Rattle.bitwords.proofs.Counted.{ones-bits}
use Rattle.bitwords.specs.Handfuls.{word_positions}

-- the lowest bit gives the first position
pub positions-first : (base old new k : ℕ) → IsLowestBit old k → ClearsBit old new k
    → word_positions base old ≡ (base + k) ∷ word_positions base new
unfolding word_positions
positions-first base old new k is clears =
    let here : base + k - base ≡ k = omega arith in
    ascending-first _ _ base 64 (base + k)
    (record {
      from = omega arith;
      to = omega (arith, is.within);
      passes = rw (here, is.set);
      gone = rw (here, clears.clear);
      others =
          λ i above below other. ap (λ b. b == 1) (clears.others (i - base) (omega arith) (λ e. other (omega arith)));
    })
    (λ i above below. ap (λ b. b == 1) (is.lowest (i - base) (omega arith)))

-- the word 0 has none
pub positions-none : (base : ℕ) → word_positions base 0 ≡ []
unfolding word_positions
positions-none base = ascending-none _ base 64 (λ i above below. ap (λ b. b == 1) (bit_at-zero (i - base)))

pub positions-most : (base word : ℕ) → length (word_positions base word) ≤ 64
unfolding word_positions
positions-most base word = length-ascending (λ p. bit word (p - base)) base 64

-- where the test is moved with the numbers, those that pass are moved
ascending-moved : (f : ℕ → Bool) (base low n : ℕ)
    → ascending (λ p. f (p - base)) (base + low) n ≡ map (λ b. base + b) (ascending f low n)
ascending-moved f base low zero = refl
ascending-moved f base low (suc n) =
    let here : base + low - base ≡ low = omega arith in
    let next : base + low + 1 ≡ base + (low + 1) = omega arith in
    rw (here, next, ascending-moved f base (low + 1) n) (by_test (f low) (ascending f (low + 1) n))
  where
    by_test : (b : Bool) (xs : List ℕ) → cond b ((base + low) ∷ map (λ b. base + b) xs) (map (λ b. base + b) xs)
        ≡ map (λ b. base + b) (cond b (low ∷ xs) xs)
    by_test true xs = refl
    by_test false xs = refl

-- the bits that are set, moved up by the position of bit 0
positions-moved : (base word : ℕ) → word_positions base word ≡ map (λ b. base + b) (ascending (bit word) 0 64)
unfolding word_positions
positions-moved base word =
    let e : base ≡ base + 0 = omega arith in
    ap (λ b. ascending (λ p. bit word (p - base)) b 64) e ∙ ascending-moved (bit word) base 0 64

-- at position 0 they are the bits themselves
pub positions-bits : (word : ℕ) → word_positions 0 word ≡ ascending (bit word) 0 64
unfolding word_positions
positions-bits word = ascending-same _ (bit word) 0 64
    (λ i above below. let e : i - 0 ≡ i = omega arith in ap (bit word) e)

pub positions-placed : (base word : ℕ) → map (λ b. base + b) (word_positions 0 word) ≡ word_positions base word
positions-placed base word = ap (map (λ b. base + b)) (positions-bits word) ∙ sym (positions-moved base word)

-- where the word stands makes no difference to how many they are
length-bits : (base word : ℕ) → length (word_positions base word) ≡ length (ascending (bit word) 0 64)
length-bits base word =
    ap length (positions-moved base word) ∙ length-map (ascending (bit word) 0 64) (λ b. base + b)

pub length-placed : (base other word : ℕ) → length (word_positions base word) ≡ length (word_positions other word)
length-placed base other word = length-bits base word ∙ sym (length-bits other word)

-- a word has as many positions as ones
pub length-positions : (base word : ℕ) → word < 2 ^ 64 → length (word_positions base word) ≡ ones word
length-positions base word fits = length-bits base word ∙ length-count (bit word) 64 ∙ sym (ones-bits 64 word fits)

-- ---- the lowest bit cleared, also of a word that is 0

is_lowest : (n : ℕ) → 0 < n → n < 2 ^ 64 → IsLowestBit n (trailing_zeros w64 n)
is_lowest n some fits =
    let found = bit_at-trailing_zeros w64 n some fits in record { within = found.0; set = found.1; lowest = found.2 }

-- one less, and for 0 the greatest word
abbrev pub one_less : ℕ → ℕ
one_less n = (n + (2 ^ 64 - 1)) % 2 ^ 64

-- the positions left are those behind the first, if there is one
pub step-rest : (base n : ℕ) → n < 2 ^ 64
    → word_positions base (bit_and n (one_less n)) ≡ drop 1 (word_positions base n)
step-rest base zero fits = rw (positions-none base) refl
step-rest base (suc m) fits =
    let n : ℕ = suc m in
    let less : one_less n ≡ n - 1 = omega arith in
    let is = is_lowest n (omega arith) fits in
    rw (less, positions-first base n (bit_and n (n - 1)) (trailing_zeros w64 n) is (clears_lowest n _ is)) refl

-- the first, if there is one
first-bit : (n : ℕ) → n < 2 ^ 64 → 0 < length (word_positions 0 n)
    → (trailing_zeros w64 n < 64) × (trailing_zeros w64 n ≡ get_or (word_positions 0 n) 0 0)
first-bit zero fits some = absurd (omega (arith, ap length (positions-none 0)))
first-bit (suc m) fits some =
    let n : ℕ = suc m in
    let is = is_lowest n (omega arith) fits in
    let same : trailing_zeros w64 n ≡ 0 + trailing_zeros w64 n = omega arith in (
      is.within,
      same
          ∙ sym (ap (λ xs. get_or xs 0 0)
          (positions-first 0 n (bit_and n (n - 1)) (trailing_zeros w64 n) is (clears_lowest n _ is))),
    )

-- what the first of the bits left is given as is the next that is to be written
pub step-first : (f : ℕ → ℕ) (all : List ℕ) (n k x : ℕ) → n < 2 ^ 64 → word_positions 0 n ≡ drop k all
    → (trailing_zeros w64 n < 64 → x ≡ f (trailing_zeros w64 n)) → 0 < length (drop k (map f all))
    → x ≡ get_or (drop k (map f all)) 0 0
step-first f all n k x fits rest is some =
    let mapped : drop k (map f all) ≡ map f (word_positions 0 n) = drop-map f k all ∙ ap (map f) (sym rest) in
    let left : 0 < length (word_positions 0 n) = omega (arith, ap length mapped, length-map (word_positions 0 n) f) in
    let first = first-bit n fits left in
    is first.0 ∙ ap f first.1 ∙ sym (get_or-map f (word_positions 0 n) 0 0 0 left)
    ∙ sym (ap (λ xs. get_or xs 0 0) mapped)

-- ---- what is written, as far as there is so much

-- so many are written, as far as there are so many
abbrev pub IsWritten : List ℕ → ℕ → List ℕ → Type 0
IsWritten all k out = (j : ℕ) → j < k → j < length all → get_or out j 0 ≡ get_or all j 0

pub written-one : (all out : List ℕ) (k x : ℕ) → k < length out → IsWritten all k out
    → (0 < length (drop k all) → x ≡ get_or (drop k all) 0 0) → IsWritten all (k + 1) (slice_set out k x)
written-one all out k x room before is j below some =
    elim (cases_eq j k) [
      | inl here ↦
          let at : k + 0 ≡ k = omega arith in
          let one : x ≡ get_or all k 0 = is (omega (arith, length-drop k all)) ∙ get_or-drop k all 0 0
          ∙ ap (λ i. get_or all i 0) at in
          rw here (get_or-set_same out k x 0 room ∙ one)
      | inr other ↦ get_or-set_other out k j x 0 other ∙ before j (omega (arith, other)) some
    ]

module _ (all out eight : List ℕ) (a : ℕ) (room : a + 8 ≤ length out) (long : length eight ≡ 8)
    (before : IsWritten all a out) (more : IsWritten (drop a all) 8 eight) where
  by_place : (j : ℕ) → j < a + 8 → j < length all → ((leb a j ≡ true) × (a ≤ j)) ⊎ ((leb a j ≡ false) × (j < a))
      → get_or (take a out ++ eight) j 0 ≡ get_or all j 0
  by_place j below some (inr (_, early)) =
      get_or_append_left (take a out) eight 0 j (omega (arith, length-take-le a out (omega arith)))
      ∙ get_or-take a out j 0 early ∙ before j early some
  by_place j below some (inl (_, late)) =
      let i : ℕ = j - a in
      let is : j ≡ length (take a out) + i = omega (arith, length-take-le a out (omega arith)) in
      let also : a + i ≡ j = omega arith in
      ap (λ k. get_or (take a out ++ eight) k 0) is ∙ get_or-append-add (take a out) eight i 0
      ∙ more i (omega arith) (omega (arith, length-drop a all)) ∙ get_or-drop a all i 0 ∙ ap (λ k. get_or all k 0) also

  pub written-eight : IsWritten all (a + 8) (put_mid a (a + 8 - a) out eight)
  written-eight j below some =
      sym (get_or-take (a + 8) (put_mid a (a + 8 - a) out eight) j 0 below)
      ∙ ap (λ xs. get_or xs j 0) (take-put_mid a (a + 8 - a) out eight (a + 8) (omega arith) (omega arith))
      ∙ by_place j below some (leb_tells a j)

-- where all are written, they stand in front
pub all-written : (all out : List ℕ) (k n : ℕ) → n ≡ length all → n ≤ k → n ≤ length out → IsWritten all k out
    → take n out ≡ all
all-written all out k n is enough room written =
    let long : length (take n out) ≡ n = length-take-le n out room in
    ext_get_or 0 (take n out) all (omega (arith, is))
    (λ i below. get_or-take n out i 0 (omega arith) ∙ written i (omega arith) (omega arith))

-- ---- what is behind

pub drop-further : (m a : ℕ) (xs ys : List ℕ) → drop a xs ≡ drop a ys → drop (a + m) xs ≡ drop (a + m) ys
drop-further m a xs ys same = sym (drop-drop m a xs) ∙ ap (drop m) same ∙ drop-drop m a ys

pub drop-from : (a b : ℕ) (xs ys : List ℕ) → a ≤ b → drop a xs ≡ drop a ys → drop b xs ≡ drop b ys
drop-from a b xs ys le same =
    let e : a + (b - a) ≡ b = omega arith in
    sym (ap (λ n. drop n xs) e) ∙ drop-further (b - a) a xs ys same ∙ ap (λ n. drop n ys) e
