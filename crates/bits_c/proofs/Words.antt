-- The first word of those left: its lowest bit. And what is left of one word, apart from the others.
use Rattle.std.proofs.Common.{◌≡◌, ◌≢◌, ℕ, suc, ◌+◌, ◌-◌, ◌*◌, ◌/◌, ◌%◌, ◌<◌, ◌≤◌, ◌==◌, Bool, List, [], ◌∷◌}
use Rattle.std.proofs.Common.{◌++◌, length, refl, sym, ap, ◌∙◌, arith, ⊎_elim, append-nil, append_assoc}
use Rattle.std.specs.Int.{bit_at}
use Rattle.std.proofs.lemmas.Bool.{cases_lt}
use Rattle.std.proofs.lemmas.Nat.Bits.{bit_at-zero}
use Rattle.bitlanes.specs.Word.{IsLowestBit, ClearsBit}
use Rattle.bitwords.specs.Ascending.{ascending}
use Rattle.bitwords.specs.AscendingFacts.{ascending-append, ascending-first, ascending-none, ascending-same}
use Rattle.bitwords.specs.Rows.{has_bit}
use Rattle.bitwords.specs.WalkedWords.{ones_from}

module _ (words : List ℕ) where
  here : (word i : ℕ) → i < 64 → has_bit (word ∷ words) i ≡ (bit_at word i == 1)
  unfolding has_bit
  here word i below =
      let quotient : i / 64 ≡ 0 = omega arith in let rest : i % 64 ≡ i = omega arith in rw (quotient, rest)

  behind : (one other i : ℕ) → 64 ≤ i → has_bit (one ∷ words) i ≡ has_bit (other ∷ words) i
  unfolding has_bit
  behind one other i past = let quotient : i / 64 ≡ suc (i / 64 - 1) = omega arith in rw quotient

  -- it is the first position left, and without it the others are
  pub lowest_first : (start old new k : ℕ) → IsLowestBit old k → ClearsBit old new k
      → ones_from start (old ∷ words) ≡ (start + k) ∷ ones_from start (new ∷ words)
  unfolding ones_from
  lowest_first start old new k is clears =
      let at : start + k - start ≡ k = omega arith in
      let stays = λ (i : ℕ) (other : i ≢ k).
      ⊎_elim
      (λ (lt : i < 64). here new i lt ∙ ap (λ b. b == 1) (clears.others i lt other) ∙ sym (here old i lt))
      (λ (ge : 64 ≤ i). behind new old i ge)
      (cases_lt i 64) in
      ascending-first _ _ start (64 * suc (length words)) (start + k)
      (record {
        from = omega arith;
        to = omega (arith, is.within);
        passes = ap (has_bit (old ∷ words)) at ∙ here old k is.within ∙ ap (λ b. b == 1) is.set;
        gone = ap (has_bit (new ∷ words)) at ∙ here new k is.within ∙ ap (λ b. b == 1) clears.clear;
        others = λ i above below other. stays (i - start) (omega arith);
      })
      (λ i above below. here old (i - start) (omega (arith, is.within))
      ∙ ap (λ b. b == 1) (is.lowest (i - start) (omega arith)))

-- ---- one word apart from the others

-- the positions of one word
of_word : (at word : ℕ) → List ℕ
of_word at word = ascending (λ p. bit_at word (p - at) == 1) at 64

no_bit : (at : ℕ) → of_word at 0 ≡ []
unfolding of_word
no_bit at = ascending-none _ at 64 (λ i _ _. ap (λ b. b == 1) (bit_at-zero (i - at)))

no_word : (at : ℕ) → ones_from at [] ≡ []
unfolding ones_from
no_word at = refl

later : (words : List ℕ) (word i j : ℕ) → i ≡ j + 64 → has_bit (word ∷ words) i ≡ has_bit words j
unfolding has_bit
later words word i j is = let quotient : i / 64 ≡ suc (j / 64) = omega arith in
    let rest : i % 64 ≡ j % 64 = omega arith in rw (quotient, rest)

-- the positions of the first word, and then those of the others
word_apart : (at word : ℕ) (words : List ℕ) → ones_from at (word ∷ words) ≡ of_word at word ++ ones_from (at + 64) words
unfolding ones_from of_word
word_apart at word words =
    let room : 64 * suc (length words) ≡ 64 + 64 * length words = omega arith in
    let test : ℕ → Bool = λ p. has_bit (word ∷ words) (p - at) in
    let own = ascending-same test _ at 64 (λ i from below. here words word (i - at) (omega arith)) in
    let others = ascending-same test (λ p. has_bit words (p - (at + 64))) (at + 64) (64 * length words)
    (λ i from below. later words word (i - at) (i - (at + 64)) (omega arith)) in
    ap (ascending test at) room ∙ ascending-append test at 64 (64 * length words) ∙ (λ i. own i ++ others i)

-- what is left of the first word alone, and then of the others, is what is left of all
pub front_apart : (at front : ℕ) (words : List ℕ)
    → ones_from at (front ∷ 0 ∷ []) ++ ones_from at (0 ∷ words) ≡ ones_from at (front ∷ words)
front_apart at front words =
    rw (
      word_apart at front (0 ∷ []),
      word_apart (at + 64) 0 [],
      word_apart at 0 words,
      word_apart at front words,
      no_bit at,
      no_bit (at + 64),
      no_word (at + 64 + 64),
      append-nil (of_word at front),
    ) refl

last_apart : (at end back : ℕ) (words : List ℕ) → end ≡ at + 64 * length words
    → ones_from at (words ++ back ∷ []) ≡ ones_from at (words ++ 0 ∷ []) ++ of_word end back
last_apart at end back [] is =
    let here : end ≡ at = omega arith in
    rw (here, word_apart at back [], word_apart at 0 [], no_bit at, no_word (at + 64), append-nil (of_word at back))
    refl
last_apart at end back (word ∷ words) is =
    word_apart at word (words ++ back ∷ [])
    ∙ ap (λ xs. of_word at word ++ xs) (last_apart (at + 64) end back words (omega (arith, is)))
    ∙ sym (append_assoc (of_word at word) (ones_from (at + 64) (words ++ 0 ∷ [])) (of_word end back))
    ∙ ap (λ xs. xs ++ of_word end back) (sym (word_apart at word (words ++ 0 ∷ [])))

-- what is left of the words before the last, and then of the last alone, is what is left of all
pub back_apart : (at start back : ℕ) (words : List ℕ) → start + 64 ≡ at + 64 * length words
    → ones_from at (words ++ 0 ∷ []) ++ ones_from start (0 ∷ back ∷ []) ≡ ones_from at (words ++ back ∷ [])
back_apart at start back words is =
    rw (
      last_apart at (start + 64) back words is,
      word_apart start 0 (back ∷ []),
      word_apart (start + 64) back [],
      no_bit start,
      no_word (start + 64 + 64),
      append-nil (of_word (start + 64) back),
    ) refl
