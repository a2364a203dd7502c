-- Some items are written to places, and then some more of those left.
use Rattle.std.proofs.Common.{◌≡◌, ℕ, zero, suc, ◌+◌, ◌-◌, ◌*◌, ◌<◌, ◌≤◌, List, [], ◌∷◌, ◌++◌}
use Rattle.std.proofs.Common.{length, take, drop, get_or, refl, sym, ap, ◌∙◌, ⊎_elim, arith}
use Rattle.std.proofs.Math.Seq.{take-append-add, take-append_seam, drop-append_seam, drop-append-add, take-add}
use Rattle.std.proofs.lemmas.Bool.{cases_lt}
use Rattle.std.proofs.lemmas.List.{append-nil, append_assoc, length-take-le, length-append, length-drop, take-take}
use Rattle.std.proofs.lemmas.List.{get_or-drop, take-append-drop, drop_at, drop-drop, drop-append-le}
use Rattle.std.proofs.lemmas.Slice.{take-put_mid}
use borrow.Rule.Slice.PartMut.{put_mid}
use Rattle.bitlanes.specs.Bits.{bit}
use Rattle.bitwords.specs.Ascending.{ascending}
use Rattle.bitwords.specs.AscendingFacts.{ascending-append, ascending-same}
use Rattle.bitwords.specs.Rows.{has_bit}
use Rattle.bitwords.specs.WalkedWords.{ones_from}
use Rattle.bitwords.specs.Handfuls.{word_positions, ones_ahead, GivesSome}
use Rattle.bitwords.proofs.OnesFrom.{has_bit-first, has_bit-later}
use Rattle.bitwords.proofs.Giving.{length-placed, drop-from}

-- the first word's, and then the others'
pub ones_from-word : (start word : ℕ) (words : List ℕ)
    → ones_from start (word ∷ words) ≡ word_positions start word ++ ones_from (start + 64) words
unfolding ones_from word_positions
ones_from-word start word words =
    let more : 64 * suc (length words) ≡ 64 + 64 * length words = omega arith in
    let first = ascending-same (λ p. has_bit (word ∷ words) (p - start)) (λ p. bit word (p - start)) start 64
    (λ i above below. has_bit-first word words (i - start) (omega arith)) in
    let later = ascending-same (λ p. has_bit (word ∷ words) (p - start)) (λ p. has_bit words (p - (start + 64)))
    (start + 64) (64 * length words)
    (λ i above below. has_bit-later word words (i - start) (i - (start + 64)) (omega arith)) in
    ap (ascending (λ p. has_bit (word ∷ words) (p - start)) start) more
    ∙ ascending-append _ start 64 (64 * length words) ∙ (λ j. first j ++ later j)

-- a row has as many as its first word and its others
pub length-first : (at word : ℕ) (words : List ℕ)
    → length (ones_from at (word ∷ words)) ≡ length (word_positions 0 word) + length (ones_from (at + 64) words)
length-first at word words =
    ap length (ones_from-word at word words) ∙ length-append (word_positions at word) (ones_from (at + 64) words)
    ∙ ap (λ n. n + length (ones_from (at + 64) words)) (length-placed at 0 word)

-- no word has none
ones_from-none : (start : ℕ) → ones_from start [] ≡ []
unfolding ones_from
ones_from-none start = refl

-- the first words', and then the last one's
pub ones_from-last_word : (start end word : ℕ) (words : List ℕ) → end ≡ start + 64 * length words
    → ones_from start (words ++ word ∷ []) ≡ ones_from start words ++ word_positions end word
ones_from-last_word start end word [] is =
    let here : start ≡ end = omega (arith, is) in
    ones_from-word start word [] ∙ (λ j. word_positions (here j) word ++ ones_from-none (start + 64) j)
    ∙ append-nil (word_positions end word) ∙ sym (ap (λ xs. xs ++ word_positions end word) (ones_from-none start))
ones_from-last_word start end word (first ∷ words) is =
    ones_from-word start first (words ++ word ∷ [])
    ∙ ap (λ xs. word_positions start first ++ xs)
    (ones_from-last_word (start + 64) end word words (omega (arith, is)))
    ∙ sym (append_assoc (word_positions start first) (ones_from (start + 64) words) (word_positions end word))
    ∙ ap (λ xs. xs ++ word_positions end word) (sym (ones_from-word start first words))

-- a row has at least as many positions as any four words that follow each other
pub most-in : (at k : ℕ) (words others : List ℕ) → k + 4 ≤ length words
    → ones_ahead (drop k words) ≤ length (ones_from at (words ++ others))
most-in at zero [] others long = absurd (omega arith)
most-in at zero (a ∷ []) others long = absurd (omega arith)
most-in at zero (a ∷ b ∷ []) others long = absurd (omega arith)
most-in at zero (a ∷ b ∷ c ∷ []) others long = absurd (omega arith)
most-in at zero (a ∷ b ∷ c ∷ d ∷ words) others long =
    let rest : List ℕ = words ++ others in
    omega (
      arith,
      length-first at a (b ∷ c ∷ d ∷ rest),
      length-first (at + 64) b (c ∷ d ∷ rest),
      length-first (at + 64 + 64) c (d ∷ rest),
      length-first (at + 64 + 64 + 64) d rest,
    )
most-in at (suc k) [] others long = absurd (omega arith)
most-in at (suc k) (a ∷ words) others long =
    omega (arith, length-first at a (words ++ others), most-in (at + 64) k words others (omega arith))

-- the positions of a row's last four words, of those behind its first
pub most-behind : (at front : ℕ) (middle : List ℕ) → 4 ≤ length middle
    → ones_ahead (drop (length middle - 4) middle) ≤ length (ones_from at (front ∷ middle))
most-behind at front middle long =
    let most = most-in (at + 64) (length middle - 4) middle [] (omega arith) in
    omega (arith, length-first at front middle, rw append-nil at most)

-- the word at a place and the three behind it are the first four of those from there on
pub four-ahead : (words : List ℕ) (k : ℕ)
    → ones_ahead (drop k words)
    ≡ length (word_positions 0 (get_or words k 0)) + length (word_positions 0 (get_or words (k + 1) 0))
    + length (word_positions 0 (get_or words (k + 2) 0)) + length (word_positions 0 (get_or words (k + 3) 0))
four-ahead words k =
    let here : k + 0 ≡ k = omega arith in
    rw (
      get_or-drop k words 0 0,
      get_or-drop k words 1 0,
      get_or-drop k words 2 0,
      get_or-drop k words 3 0,
      here,
    ) refl

-- as many more are in front, as were written to the front of the rest
take-more : (a k r : ℕ) (xs ys : List ℕ) → a ≤ length xs → r ≤ length ys
    → take (a + r) (put_mid a k xs ys) ≡ take a xs ++ take r ys
take-more a k r xs ys within few =
    let long : length (take a xs) ≡ a = length-take-le a xs within in
    sym (take-take (a + r) (a + length ys) (put_mid a k xs ys) (omega arith))
    ∙ ap (take (a + r)) (take-put_mid a k xs ys (a + length ys) refl within)
    ∙ ap (λ n. take (n + r) (take a xs ++ ys)) (sym long)
    ∙ take-append-add (take a xs) ys r

-- what is behind two lists of one length is the same, where what they end with is
same-behind : (m : ℕ) (ys zs ends : List ℕ) → length ys ≡ length zs → drop m ys ≡ drop m zs
    → drop m (ys ++ ends) ≡ drop m (zs ++ ends)
same-behind m ys zs ends long same =
    ⊎_elim
    (λ (lt : m < length ys). drop-append-le m ys ends (omega arith) ∙ ap (λ xs. xs ++ ends) same
    ∙ sym (drop-append-le m zs ends (omega arith)))
    (λ (ge : length ys ≤ m).
    let j : ℕ = m - length ys in
    let one : m ≡ length ys + j = omega arith in
    let two : m ≡ length zs + j = omega arith in
    ap (λ n. drop n (ys ++ ends)) one ∙ drop-append-add ys ends j
    ∙ sym (ap (λ n. drop n (zs ++ ends)) two ∙ drop-append-add zs ends j))
    (cases_lt m (length ys))

-- what is behind stays, where a part was written up to there
behind-kept : (a k m : ℕ) (xs ys : List ℕ) → a ≤ length xs → length ys ≡ length (take k (drop a xs))
    → drop m ys ≡ drop m (take k (drop a xs)) → drop (a + m) (put_mid a k xs ys) ≡ drop (a + m) xs
behind-kept a k m xs ys within long same =
    sym (drop-drop m a (put_mid a k xs ys))
    ∙ ap (drop m) (drop_at (take a xs) (ys ++ drop k (drop a xs)) a (length-take-le a xs within))
    ∙ same-behind m ys (take k (drop a xs)) (drop k (drop a xs)) long same
    ∙ ap (drop m) (take-append-drop k (drop a xs)) ∙ drop-drop m a xs

-- where more are given to a part of the places behind, those that stand seven behind them stay too
pub others-more : (before out ys : List ℕ) (a k n e : ℕ) → a ≤ length out → length ys ≡ length (take k (drop a out))
    → e ≤ n + 7 → drop e ys ≡ drop e (take k (drop a out)) → drop (a + 7) out ≡ drop (a + 7) before
    → drop (a + n + 7) (put_mid a k out ys) ≡ drop (a + n + 7) before
others-more before out ys a k n e within long few behind so_far =
    drop-from (a + e) (a + n + 7) (put_mid a k out ys) out (omega (arith, few))
    (behind-kept a k e out ys within long behind)
    ∙ drop-from (a + 7) (a + n + 7) out before (omega arith) so_far

-- some are given, and then some of those left to a part of the places behind
pub gives-more : (all before out ys left rest : List ℕ) (a k n : ℕ) → length out ≡ length before
    → length ys ≡ length (take k (drop a out))
    → GivesSome all before a out left → GivesSome left (take k (drop a out)) n ys rest
    → GivesSome all before (a + n) (put_mid a k out ys) rest
gives-more all before out ys left rest a k n same long first more =
    let within : a ≤ length out = omega (arith, first.room) in
    let left_long : length left ≡ length all - a = ap length first.rest ∙ length-drop a all in
    let sum : a + length left ≡ length all = omega (arith, first.at_most, left_long) in
    let put : List ℕ = put_mid a k out ys in
    let part : length (take k (drop a out)) ≤ length out - a =
    omega (arith, length-part k (drop a out), length-drop a out) in
    record {
      at_most = omega (arith, more.at_most, sum);
      room = omega (arith, more.room, within, part);
      written = take-more a k n out ys within (omega (arith, more.room, long))
          ∙ (λ j. first.written j ++ (more.written ∙ ap (take n) first.rest) j) ∙ sym (take-add a n all);
      behind = sym (ap (λ m. drop m put) sum) ∙ behind-kept a k (length left) out ys within long more.behind
          ∙ ap (λ m. drop m out) sum ∙ first.behind;
      rest = more.rest ∙ ap (drop n) first.rest ∙ drop-drop n a all;
    }
  where
    length-part : (m : ℕ) (xs : List ℕ) → length (take m xs) ≤ length xs
    length-part m xs =
        ⊎_elim
        (λ (lt : m < length xs). omega (arith, length-take-le m xs (omega arith)))
        (λ (ge : length xs ≤ m).
        omega (arith, ap length (take-append-drop m xs), length-append (take m xs) (drop m xs)))
        (cases_lt m (length xs))

-- the first items are given, and up to `e` places were written
pub gives-first : (left items others rest before after : List ℕ) (c e : ℕ) → left ≡ items ++ others → rest ≡ others
    → c ≡ length items → c ≤ e → e ≤ length items + length others → c ≤ length before
    → take c after ≡ items → drop e after ≡ drop e before → GivesSome left before c after rest
gives-first left items others rest before after c e left_is rest_is is few reach room written behind =
    let long : length left ≡ length items + length others = ap length left_is ∙ length-append items others in
    record {
      at_most = omega (arith, long, is);
      room = room;
      written =
          written ∙ sym (ap (λ n. take n left) is ∙ ap (take (length items)) left_is ∙ take-append_seam items others);
      behind = drop-from e (length left) after before (omega (arith, long)) behind;
      rest =
          rest_is ∙ sym (ap (λ n. drop n left) is ∙ ap (drop (length items)) left_is ∙ drop-append_seam items others);
    }

-- none is given
pub gives-none : (items before : List ℕ) → GivesSome items before 0 before items
gives-none items before =
    record { at_most = omega arith; room = omega arith; written = refl; behind = refl; rest = refl }
