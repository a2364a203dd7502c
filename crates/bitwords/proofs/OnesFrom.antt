-- The bits of a row of words, seen from its first word and from its last. And the positions set in a row, and what
-- becomes of them at its ends.
use Rattle.std.proofs.Common.{◌≡◌, ◌≢◌, ℕ, suc, ◌+◌, ◌*◌, ◌/◌, ◌%◌, ◌<◌, ◌==◌, List, get_or, [], ◌∷◌}
use Rattle.std.proofs.Common.{◌++◌, length, ap, arith, ⊎_elim, ◌-◌, ◌≤◌, sym, ◌∙◌, length-append}
use Rattle.std.specs.Int.{bit_at}
use Rattle.std.proofs.lemmas.Bool.{cases_eq}
use Rattle.std.proofs.lemmas.Grind.{elements}
use Rattle.std.proofs.lemmas.List.{length-append, get_or_append_left, get_or_at, get_or_push, get_or_past}
use Rattle.bitlanes.specs.Word.{ClearsBit, IsLowestBit, IsHighestBit}
use Rattle.bitwords.specs.Rows.{has_bit}
use Rattle.bitwords.specs.RowFacts.{has_bit-same, has_bit-past}
use Rattle.std.proofs.lemmas.Nat.Bits.{bit_at-zero}
use Rattle.bitwords.specs.WalkedWords.{ones_from}
use Rattle.bitwords.specs.Ascending.{ascending}
use Rattle.bitwords.specs.AscendingFacts.{ascending-same, ascending-skip, ascending-cut}
use Rattle.bitwords.specs.AscendingFacts.{ascending-first, ascending-last, length-ascending}

-- a position in the first word
pub has_bit-first : (word : ℕ) (words : List ℕ) (i : ℕ) → i < 64 → has_bit (word ∷ words) i ≡ (bit_at word i == 1)
unfolding has_bit
has_bit-first word words i below = let a : i / 64 ≡ 0 = omega arith in let b : i % 64 ≡ i = omega arith in rw (a, b)

-- a position in a later word
pub has_bit-later : (word : ℕ) (words : List ℕ) (i j : ℕ) → i ≡ j + 64 → has_bit (word ∷ words) i ≡ has_bit words j
unfolding has_bit
has_bit-later word words i j later =
    let a : i / 64 ≡ suc (j / 64) = omega arith in let b : i % 64 ≡ j % 64 = omega arith in rw (a, b)

-- a position in the last word
pub has_bit-last : (words : List ℕ) (word i j : ℕ) → i ≡ 64 * length words + j → j < 64
    → has_bit (words ++ word ∷ []) i ≡ (bit_at word j == 1)
unfolding has_bit
has_bit-last words word i j is within = grind (arith, get_or_push)

-- a position before the last word
pub has_bit-before : (words : List ℕ) (word i : ℕ) → i < 64 * length words
    → has_bit (words ++ word ∷ []) i ≡ has_bit words i
unfolding has_bit
has_bit-before words word i below =
    ap (λ w. bit_at w (i % 64) == 1) (get_or_append_left words (word ∷ []) 0 (i / 64) (omega arith))

-- an empty word at the end has no position
pub has_bit-drop_last : (words : List ℕ) (i : ℕ) → has_bit (words ++ 0 ∷ []) i ≡ has_bit words i
has_bit-drop_last words =
    has_bit-same _ words (λ k. grind (arith, get_or_append_left, get_or_at, get_or_push, get_or_past, length-append))

-- a bit of a word is cleared, and each other position stays
pub has_bit-other : (before after : List ℕ) (old new k i : ℕ) → ClearsBit old new k → i ≢ 64 * length before + k
    → has_bit (before ++ new ∷ after) i ≡ has_bit (before ++ old ∷ after) i
unfolding has_bit
has_bit-other before after old new k i clears other = ⊎_elim
    (λ (here : length before ≡ i / 64).
    rw (get_or_at before new after 0 (i / 64) here, get_or_at before old after 0 (i / 64) here)
    (ap (λ b. b == 1) (clears.others (i % 64) (omega arith) (omega arith))))
    (λ apart. let same : get_or (before ++ new ∷ after) (i / 64) 0 ≡ get_or (before ++ old ∷ after) (i / 64) 0 =
    grind (arith, elements, apart) in ap (λ w. bit_at w (i % 64) == 1) same)
    (cases_eq (length before) (i / 64))

-- an empty word in front adds nothing
pub ones_from-skip : (start : ℕ) (words : List ℕ) → ones_from start (0 ∷ words) ≡ ones_from (start + 64) words
unfolding ones_from
ones_from-skip start words =
    let more : 64 * suc (length words) ≡ 64 + 64 * length words = omega arith in
    ap (ascending (λ p. has_bit (0 ∷ words) (p - start)) start) more
    ∙ ascending-skip _ _ start 64 (64 * length words)
    (λ i above below. has_bit-first 0 words (i - start) (omega arith) ∙ ap (λ b. b == 1) (bit_at-zero (i - start)))
    (λ i above below. has_bit-later 0 words (i - start) (i - (start + 64)) (omega arith))

-- the positions of a row are those of another one with the same bits, where it ends
pub ones_from-same : (start : ℕ) (longer words : List ℕ) → length words ≤ length longer
    → ((i : ℕ) → has_bit longer i ≡ has_bit words i) → ones_from start longer ≡ ones_from start words
unfolding ones_from
ones_from-same start longer words fits same =
    let more : 64 * length longer ≡ 64 * length words + (64 * length longer - 64 * length words) =
    omega (arith, fits) in
    ap (ascending (λ p. has_bit longer (p - start)) start) more
    ∙ ascending-cut _ _ start (64 * length words) (64 * length longer - 64 * length words)
    (λ i above below. same (i - start))
    (λ i above below. same (i - start) ∙ has_bit-past words (i - start) (omega arith))

-- an empty word at the end adds nothing
pub ones_from-drop_last : (start : ℕ) (words : List ℕ) → ones_from start (words ++ 0 ∷ []) ≡ ones_from start words
ones_from-drop_last start words =
    ones_from-same start (words ++ 0 ∷ []) words (omega (arith, length-append words (0 ∷ []))) (has_bit-drop_last words)

-- the lowest bit of the first word is the first item
pub ones_from-first : (start old new k : ℕ) (words : List ℕ) → IsLowestBit old k → ClearsBit old new k
    → ones_from start (old ∷ words) ≡ (start + k) ∷ ones_from start (new ∷ words)
unfolding ones_from
ones_from-first start old new k words is clears =
    let here : start + k - start ≡ k = omega arith in
    ascending-first _ _ start (64 * suc (length words)) (start + k)
    (record {
      from = omega arith;
      to = omega (arith, is.within);
      passes = ap (has_bit (old ∷ words)) here ∙ has_bit-first old words k is.within ∙ ap (λ b. b == 1) is.set;
      gone = ap (has_bit (new ∷ words)) here ∙ has_bit-first new words k is.within ∙ ap (λ b. b == 1) clears.clear;
      others = λ i above below other. has_bit-other [] words old new k (i - start) clears (omega arith);
    })
    (λ i above below. has_bit-first old words (i - start) (omega (arith, is.within))
    ∙ ap (λ b. b == 1) (is.lowest (i - start) (omega arith)))

-- the highest bit of the last word is the last item
pub ones_from-last : (start end old new k : ℕ) (words : List ℕ) → end ≡ start + 64 * length words → IsHighestBit old k
    → ClearsBit old new k
    → ones_from start (words ++ old ∷ []) ≡ ones_from start (words ++ new ∷ []) ++ (end + k) ∷ []
unfolding ones_from
ones_from-last start end old new k words ends is clears =
    let here : end + k - start ≡ 64 * length words + k = omega (arith, ends) in
    let long : 64 * length (words ++ old ∷ []) ≡ 64 * length words + 64 =
    omega (arith, length-append words (old ∷ [])) in
    let also : 64 * length (words ++ new ∷ []) ≡ 64 * length words + 64 =
    omega (arith, length-append words (new ∷ [])) in
    ap (ascending (λ p. has_bit (words ++ old ∷ []) (p - start)) start) long
    ∙ ascending-last _ (λ p. has_bit (words ++ new ∷ []) (p - start)) start (64 * length words + 64) (end + k)
    (record {
      from = omega (arith, ends);
      to = omega (arith, ends, is.within);
      passes = has_bit-last words old _ k here is.within ∙ ap (λ b. b == 1) is.set;
      gone = has_bit-last words new _ k here is.within ∙ ap (λ b. b == 1) clears.clear;
      others = λ i above below other. has_bit-other words [] old new k (i - start) clears (omega (arith, ends));
    })
    (λ i above below. let j : ℕ = i - end in
    has_bit-last words old (i - start) j (omega (arith, ends)) (omega (arith, ends))
    ∙ ap (λ b. b == 1) (is.highest j (omega arith)))
    ∙ ap (λ n. ascending (λ p. has_bit (words ++ new ∷ []) (p - start)) start n ++ (end + k) ∷ []) (sym also)

-- at most 64 positions a word
pub length-ones_from : (start : ℕ) (words : List ℕ) → length (ones_from start words) ≤ 64 * length words
unfolding ones_from
length-ones_from start words = length-ascending (λ p. has_bit words (p - start)) start (64 * length words)

-- from position 0 on
pub ones_from-row : (words : List ℕ) → ones_from 0 words ≡ ascending (has_bit words) 0 (64 * length words)
unfolding ones_from
ones_from-row words =
    ascending-same _ (has_bit words) 0 (64 * length words) (λ i above below. let e : i - 0 ≡ i = omega arith in
    ap (has_bit words) e)
