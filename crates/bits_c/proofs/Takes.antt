-- Positions that are written to the front of a list, one after the other.
use Rattle.std.proofs.Common.{◌≡◌, ℕ, ◌+◌, ◌-◌, ◌<◌, ◌≤◌, min, List, ◌∷◌, ◌++◌, length, take, drop}
use Rattle.std.proofs.Common.{reverse, map, get_or, refl, sym, ap, ◌∙◌, ⊎_elim, ◌⊎◌, inl, inr, arith, suc}
use Rattle.std.proofs.Common.{add-one, length-drop, length-append, drop-cons, append-nil, append_assoc}
use Rattle.std.proofs.Math.Seq.{take-append_seam, drop-append_seam, take-append-add, take-add}
use Rattle.std.proofs.Math.Seq.{drop-append-add, take-length, drop-length}
use Rattle.std.proofs.lemmas.Bool.{cases_lt}
use Rattle.std.proofs.lemmas.List.{drop_all, take-append-le, drop-append-le, length-take-le, drop-drop}
use Rattle.std.proofs.lemmas.List.{take-append-drop, reverse-reverse, reverse-append, length-reverse}
use Rattle.std.proofs.lemmas.List.{map-append, length-map}
use borrow.Rule.Slice.PartMut.{put_mid, same_len_mid}
use Rattle.bitwords.specs.Handfuls.{GivesSome}
use Rattle.bitwords.proofs.Places.{gives-more}
use Rattle.bits_c.specs.Walks.{TakesFirst, TakesLast, TakesNarrow, low32}
use Rattle.std.proofs.Math.ListN.{set}
use Rattle.std.proofs.lemmas.List.Edits.{paste_more}
use Rattle.std.proofs.Math.Nat.{zero-add}

module _ {A : Type 0} (xs ps : List A) (k : ℕ) (room : k < length ps) where
  -- what a further item makes of what is written
  pub more_written : (x : A) (rest : List A) → drop k xs ≡ x ∷ rest → (k + 1 ≤ length xs)
      × (set (take k xs ++ drop k ps) k x ≡ take (k + 1) xs ++ drop (k + 1) ps) × (rest ≡ drop (k + 1) xs)
  more_written x rest is =
      let below : k < length xs = omega (arith, length-drop k xs, ap length is) in
      let heads : drop k xs ≡ get_or xs k x ∷ drop (suc k) xs = drop-cons xs k x below in
      let head : get_or xs k x ≡ x = cc in
      let tail : rest ≡ drop (k + 1) xs = rw add-one (cc) in
      let write = simp zero-add at (paste_more ps 0 xs k x (omega arith) below) in
      (omega arith, ap (set (take k xs ++ drop k ps) k) (sym head) ∙ write, tail)

-- what is taken of two lists in turn is taken of the two joined
joined : (xs ys : List ℕ) (n m : ℕ) → n ≤ length xs → (n < length xs → m ≡ 0)
    → (take (n + m) (xs ++ ys) ≡ take n xs ++ take m ys) × (drop (n + m) (xs ++ ys) ≡ drop n xs ++ drop m ys)
joined xs ys n m within last =
    ⊎_elim
    (λ (lt : n < length xs).
    let none : m ≡ 0 = last lt in
    let sum : n + m ≡ n = omega arith in (
      rw (sum, none, take-append-le n xs ys within) (sym (append-nil (take n xs))),
      rw (sum, none) (drop-append-le n xs ys within),
    ))
    (λ (ge : length xs ≤ n).
    let all : n ≡ length xs = omega arith in
    (rw (all, take-append-add xs ys m, take-length xs) refl, rw (all, drop-append-add xs ys m, drop-length xs) refl))
    (cases_lt n (length xs))

-- what is written of a second list behind a first one is of the two joined
pub both_takes : (xs ys before front room end : List ℕ) (n m : ℕ) → n ≡ min (length before) (length xs)
    → front ++ room ≡ take n xs ++ drop n before → length front ≡ n → m ≡ min (length room) (length ys)
    → end ≡ take m ys ++ drop m room
    → TakesFirst (λ zs. zs) (xs ++ ys) before (n + m) (front ++ end) (drop n xs ++ drop m ys)
both_takes xs ys before front room end n m first mid long second end_is =
    let few : length (take n xs) ≡ n = length-take-le n xs (omega arith) in
    let front_is : front ≡ take n xs = sym (rw long at (take-append_seam front room)) ∙ ap (take n) mid
    ∙ (rw few at (take-append_seam (take n xs) (drop n before))) in
    let room_is : room ≡ drop n before = sym (rw long at (drop-append_seam front room)) ∙ ap (drop n) mid
    ∙ (rw few at (drop-append_seam (take n xs) (drop n before))) in
    let count : m ≡ min (length before - n) (length ys) = second ∙ rw (room_is, length-drop n before) refl in
    let both = joined xs ys n m (omega arith) (λ (lt : n < length xs). omega arith) in
    record {
      answer = omega (arith, length-append xs ys);
      written = rw (front_is, end_is, room_is, drop-drop m n before)
          (sym (append_assoc (take n xs) (take m ys) (drop (n + m) before))
          ∙ ap (λ zs. zs ++ drop (n + m) before) (sym both.0));
      rest = sym both.1;
    }

-- what is left behind a call from the end
rest_reversed : (xs rest : List ℕ) (n : ℕ) → n ≤ length xs → reverse rest ≡ drop n (reverse xs)
    → rest ≡ take (length xs - n) xs
rest_reversed xs rest n within is =
    let ends : xs ≡ rest ++ reverse (take n (reverse xs)) = sym (reverse-reverse xs)
    ∙ ap reverse (sym (take-append-drop n (reverse xs))) ∙ reverse-append (take n (reverse xs)) (drop n (reverse xs))
    ∙ ap (λ zs. zs ++ reverse (take n (reverse xs))) (ap reverse (sym is) ∙ reverse-reverse rest) in
    let long : length rest ≡ length xs - n = sym (length-reverse rest) ∙ ap length is ∙ length-drop n (reverse xs)
    ∙ ap (λ k. k - n) (length-reverse xs) in
    sym (ap (take (length xs - n)) ends ∙ (rw long at (take-append_seam rest (reverse (take n (reverse xs))))))

-- what is taken from the front of a reversed list is taken from the end of the list
pub from_reversed : (xs before after rest : List ℕ) (n : ℕ)
    → TakesFirst (λ zs. zs) (reverse xs) before n after (reverse rest) → TakesLast (λ zs. zs) xs before n after rest
from_reversed xs before after rest n first =
    let answer : n ≡ min (length before) (length xs) = first.answer ∙ ap (min (length before)) (length-reverse xs) in
    record { answer = answer; written = first.written; rest = rest_reversed xs rest n (omega arith) first.rest }

-- ---- some of the positions, written as far as they reach

-- of the same lists
pub gives_same : (items others before after left rest : List ℕ) (n : ℕ) → GivesSome items before n after left
    → items ≡ others → rest ≡ left → GivesSome others before n after rest
gives_same items others before after left rest n some same here = record {
  at_most = omega (arith, some.at_most, ap length same);
  room = some.room;
  written = some.written ∙ ap (take n) same;
  behind = sym (ap (λ xs. drop (length xs) after) same) ∙ some.behind ∙ ap (λ xs. drop (length xs) before) same;
  rest = here ∙ some.rest ∙ ap (drop n) same;
}

-- the first positions left are some of them
pub takes_some : (all before after rest : List ℕ) (n : ℕ) → TakesFirst (λ zs. zs) all before n after rest
    → GivesSome all before n after rest
takes_some all before after rest n first =
    let few : length (take n all) ≡ n = length-take-le n all (omega (arith, first.answer)) in
    let j : ℕ = length all - n in
    let sum : n + j ≡ length all = omega (arith, first.answer) in
    let also : length (take n all) + j ≡ length all = omega (arith, few, sum) in
    record {
      at_most = omega (arith, first.answer);
      room = omega (arith, first.answer);
      written = ap (take n) first.written ∙ sym (ap (λ m. take m (take n all ++ drop n before)) few)
          ∙ take-append_seam (take n all) (drop n before);
      behind = ap (drop (length all)) first.written ∙ sym (ap (λ m. drop m (take n all ++ drop n before)) also)
          ∙ drop-append-add (take n all) (drop n before) j
          ∙ drop-drop j n before ∙ ap (λ m. drop m before) sum;
      rest = first.rest;
    }

-- where there is no more room, or no position is left, they are all that are to be written
pub some_are_all : (all before after rest : List ℕ) (n : ℕ) → GivesSome all before n after rest
    → length after ≡ length before → (n ≡ length before) ⊎ (n ≡ length all)
    → TakesFirst (λ zs. zs) all before n after rest
some_are_all all before after rest n some long (inl full) = record {
  answer = omega (arith, some.at_most, some.room, full);
  written = sym (take-append-drop n after)
      ∙ (λ j. some.written j
      ++ (drop_all n after (omega (arith, long, full)) ∙ sym (drop_all n before (omega (arith, full)))) j);
  rest = some.rest;
}
some_are_all all before after rest n some long (inr given) = record {
  answer = omega (arith, some.at_most, some.room, given);
  written = sym (take-append-drop n after)
      ∙ (λ j. some.written j ++ (ap (λ m. drop m after) given ∙ some.behind ∙ sym (ap (λ m. drop m before) given)) j);
  rest = some.rest;
}

-- some words are given whole, and then positions one by one to a part of the places behind them
module _ (all before out ys zs left mid rest : List ℕ) (a k n j m : ℕ) (same : length out ≡ length before)
    (long : length ys ≡ length (take k (drop a out)))
    (also : length zs ≡ length (take j (drop (a + n) (put_mid a k out ys))))
    (some : GivesSome all before a out left) (more : GivesSome left (take k (drop a out)) n ys mid)
    (few : TakesFirst (λ xs. xs) mid (take j (drop (a + n) (put_mid a k out ys))) m zs rest) where
  by_words : GivesSome all before (a + n) (put_mid a k out ys) mid
  by_words = gives-more all before out ys left mid a k n same long some more

  kept_long : length (put_mid a k out ys) ≡ length before
  kept_long = same_len_mid a k out ys long ∙ same

  pub words_and_few : GivesSome all before (a + n + m) (put_mid (a + n) j (put_mid a k out ys) zs) rest
  words_and_few =
      gives-more all before (put_mid a k out ys) zs mid rest (a + n) j m kept_long also by_words
      (takes_some mid (take j (drop (a + n) (put_mid a k out ys))) zs rest m few)

  -- where there are fewer positions than places in that part, they are the last
  pub words_and_last : m < j → j ≤ length before - (a + n)
      → TakesFirst (λ xs. xs) all before (a + n + m) (put_mid (a + n) j (put_mid a k out ys) zs) rest
  words_and_last fewer fits =
      let put : List ℕ = put_mid a k out ys in
      let part_long : length (take j (drop (a + n) put)) ≡ j =
      length-take-le j (drop (a + n) put) (omega (arith, length-drop (a + n) put, kept_long, fits, by_words.room)) in
      let mid_long : length mid ≡ length all - (a + n) = ap length by_words.rest ∙ length-drop (a + n) all in
      some_are_all all before (put_mid (a + n) j put zs) rest (a + n + m) words_and_few
      (same_len_mid (a + n) j put zs also ∙ kept_long)
      (inr (omega (arith, few.answer, fewer, part_long, mid_long, by_words.at_most)))

-- ---- positions written as narrower numbers

-- The first ones are written so, and the others are left.
pub record NarrowSome {S : Type 0} (left : S → List ℕ) (old : S) (before : List ℕ) (count : ℕ) (after : List ℕ)
    (new : S) : Type 0 where
  pub at_most : count ≤ length (left old)
  pub room : count ≤ length before
  pub written : after ≡ map low32 (take count (left old)) ++ drop count before
  pub rest : left new ≡ drop count (left old)

-- where there is no more room, or no position is left, they are all that are to be written
pub narrow_all : {S : Type 0} {left : S → List ℕ} {old new : S} {before after : List ℕ} {n : ℕ}
    → NarrowSome left old before n after new → (n ≡ length before) ⊎ (n ≡ length (left old))
    → TakesNarrow left old before n after new
narrow_all some (inl full) =
    record { answer = omega (arith, some.at_most, full); written = some.written; rest = some.rest }
narrow_all some (inr given) =
    record { answer = omega (arith, some.room, given); written = some.written; rest = some.rest }

-- of those left as many more as a part of a buffer has room for, which is copied
module _ {S : Type 0} {left : S → List ℕ} {old mid new : S} {before out part ys places : List ℕ} {a n : ℕ}
    (others : List ℕ) (some : NarrowSome left old before a out mid) (few : TakesFirst left mid part n ys new)
    (now : places ≡ map low32 (take n (ys ++ others))) where
  -- the buffer begins with what was given
  given : take n (ys ++ others) ≡ take n (left mid)
  given =
      let long : length (take n (left mid)) ≡ n = length-take-le n (left mid) (omega (arith, few.answer)) in
      ap (λ zs. take n (zs ++ others)) few.written
      ∙ ap (take n) (append_assoc (take n (left mid)) (drop n part) others)
      ∙ (rw long at (take-append_seam (take n (left mid)) (drop n part ++ others)))

  written : put_mid a (a + n - a) out places ≡ map low32 (take (a + n) (left old)) ++ drop (a + n) before
  written =
      let all : List ℕ = left old in
      let first : List ℕ = map low32 (take a all) in
      let long : length first ≡ a = length-map (take a all) low32 ∙ length-take-le a all some.at_most in
      let front : take a out ≡ first =
      ap (take a) some.written ∙ (rw long at (take-append_seam first (drop a before))) in
      let behind : drop a out ≡ drop a before =
      ap (drop a) some.written ∙ (rw long at (drop-append_seam first (drop a before))) in
      let same : a + n - a ≡ n = omega arith in
      let both : first ++ map low32 (take n (left mid)) ≡ map low32 (take (a + n) all) =
      sym (map-append low32 (take a all) (take n (left mid)))
      ∙ ap (map low32) ((λ j. take a all ++ take n (some.rest j)) ∙ sym (take-add a n all)) in
      (λ j. front j ++ ((now ∙ ap (map low32) given) j ++ drop (same j) (behind j)))
      ∙ sym (append_assoc first (map low32 (take n (left mid))) (drop n (drop a before)))
      ∙ (λ j. both j ++ drop-drop n a before j)

  mid_long : length (left mid) ≡ length (left old) - a
  mid_long = ap length some.rest ∙ length-drop a (left old)

  pub narrow_more : length part ≤ length before - a
      → NarrowSome left old before (a + n) (put_mid a (a + n - a) out places) new
  narrow_more fits = record {
    at_most = omega (arith, few.answer, mid_long, some.at_most);
    room = omega (arith, few.answer, fits, some.room);
    written = written;
    rest = few.rest ∙ ap (drop n) some.rest ∙ drop-drop n a (left old);
  }

  -- where there are fewer positions than places in that part, they are the last
  pub narrow_last : length part ≤ length before - a → n < length part
      → TakesNarrow left old before (a + n) (put_mid a (a + n - a) out places) new
  narrow_last fits fewer =
      narrow_all (narrow_more fits) (inr (omega (arith, few.answer, fewer, mid_long, some.at_most)))
