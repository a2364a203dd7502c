-- Joined words, written one behind the other, or over the words of a row.
use Rattle.std.proofs.Common.{◌≡◌, ℕ, zero, suc, ◌-◌, ◌<◌, ◌≤◌, List, [], ◌∷◌, ◌++◌, get_or, length, take, drop, map}
use Rattle.std.proofs.Common.{min, true, false, refl, ap, ◌∙◌, arith, Result, Ok, Err, if◌then◌else◌, zip, OnOk, is_ok}
use Rattle.std.specs.Simd.Lanes.{zip2}
use Rattle.std.proofs.Math.Seq.{drop-nil}
use Rattle.std.proofs.lemmas.List.{drop-append-le, drop_all, take_all, take_at, length-append, length-drop}
use Rattle.std.proofs.lemmas.List.{get_or_append_left, get_or-append_right, get_or_past, get_or-drop, append-nil}
use Rattle.std.proofs.lemmas.Simd.{get_or-zip2}
use Rattle.bitlanes.specs.Words.{zip_longest}
use borrow.Rule.Slice.PartMut.{put_mid, post_of}

-- pairs of words, each pair joined
pub map_zip : (f : ℕ → ℕ → ℕ) (xs ys : List ℕ) → map (λ p. f p.0 p.1) (zip xs ys) ≡ zip2 f xs ys
map_zip f [] ys = refl
map_zip f (x ∷ xs) [] = refl
map_zip f (x ∷ xs) (y ∷ ys) = ap (λ t. f x y ∷ t) (map_zip f xs ys)

-- ---- two rows joined, where the rest of the first is kept

-- joined as far as both rows go, and then the rest
pub with_rest : (f : ℕ → ℕ → ℕ) (xs ys : List ℕ) → zip2 f xs ys ++ drop (length ys) xs ≡ zip_longest f true false xs ys
with_rest f [] ys = drop-nil (length ys)
with_rest f (x ∷ xs) [] = refl
with_rest f (x ∷ xs) (y ∷ ys) = ap (λ t. f x y ∷ t) (with_rest f xs ys)

pub length-both : (f : ℕ → ℕ → ℕ) (xs ys : List ℕ) → length (zip2 f xs ys) ≡ min (length xs) (length ys)
length-both f [] ys = omega arith
length-both f (x ∷ xs) [] = omega arith
length-both f (x ∷ xs) (y ∷ ys) = let e = length-both f xs ys in omega arith

pub length-kept : (f : ℕ → ℕ → ℕ) (xs ys : List ℕ) → length (zip_longest f true false xs ys) ≡ length xs
length-kept f xs ys =
    omega (arith, ap length (with_rest f xs ys), length-append {A = ℕ}, length-drop {A = ℕ}, length-both f xs ys)

pub get_or-kept_both : (f : ℕ → ℕ → ℕ) (xs ys : List ℕ) (k : ℕ) → k < length xs → k < length ys
    → get_or (zip_longest f true false xs ys) k 0 ≡ f (get_or xs k 0) (get_or ys k 0)
get_or-kept_both f xs ys k p q = rw (← with_rest f xs ys) (grind (arith, get_or_append_left, get_or-zip2, length-both))

pub get_or-kept_past : (f : ℕ → ℕ → ℕ) (xs ys : List ℕ) (k : ℕ) → length ys ≤ k
    → get_or (zip_longest f true false xs ys) k 0 ≡ get_or xs k 0
get_or-kept_past f xs ys k p =
    rw (← with_rest f xs ys)
    (grind (arith, get_or-append_right, get_or_past, get_or-drop, length-both, length-append, length-drop))

-- the rest is as it was
pub rest_kept : (f : ℕ → ℕ → ℕ) (xs ys : List ℕ)
    → drop (length ys) (zip_longest f true false xs ys) ≡ drop (length ys) xs
rest_kept f xs ys =
    rw (← with_rest f xs ys) (grind (arith, drop-append-le, drop_all, length-both, length-append, length-drop))

pub kept_first : (f : ℕ → ℕ → ℕ) (xs ys : List ℕ) → length ys ≤ length xs
    → take (length ys) (zip_longest f true false xs ys) ≡ zip2 f xs ys
kept_first f xs ys p =
    rw (← with_rest f xs ys) (take_at (zip2 f xs ys) _ (length ys) (length-both f xs ys ∙ omega arith))

-- ---- in two parts

-- the first n words, then those behind them as far as both rows go, and then the rest
written : (f : ℕ → ℕ → ℕ) (n : ℕ) (xs ys : List ℕ) → n ≤ length xs → n ≤ length ys
    → (zip_longest f true false (take n xs) (take n ys) ++ zip2 f (drop n xs) (drop n ys)) ++ drop (length ys) xs
    ≡ zip_longest f true false xs ys
written f zero xs ys p q = with_rest f xs ys
written f (suc n) [] ys p q = absurd (omega arith)
written f (suc n) (x ∷ xs) [] p q = absurd (omega arith)
written f (suc n) (x ∷ xs) (y ∷ ys) p q = ap (λ t. f x y ∷ t) (written f n xs ys (omega arith) (omega arith))

-- the same, where the other row may be the longer one
pub written_all : (f : ℕ → ℕ → ℕ) (n : ℕ) (xs ys : List ℕ) → n ≤ length xs → n ≤ length ys
    → (zip_longest f true false (take n xs) (take n ys) ++ zip2 f (drop n xs) (drop n ys))
    ++ drop (min (length ys) (length xs)) xs ≡ zip_longest f true false xs ys
written_all f n xs ys p q =
    let rest : drop (min (length ys) (length xs)) xs ≡ drop (length ys) xs = grind (arith, drop_all) in
    rw rest (written f n xs ys p q)

-- the slice from word n on
pub slice_rest : (n : ℕ) (xs : List ℕ) → take (length xs - n) (drop n xs) ≡ drop n xs
slice_rest n xs = take_all (length xs - n) (drop n xs) (omega (arith, length-drop n xs))

-- what holds of a row where the call did not fail
pub where_ok : {T E : Type 0} (r : Result T E) (new xs ys : List ℕ) → new ≡ (if is_ok r then xs else ys)
    → OnOk r (new ≡ xs)
where_ok (Ok x) new xs ys e = e
where_ok (Err x) new xs ys e = tt

-- words written over a row
abbrev pub over : List ℕ → List ℕ → List ℕ
over to words = zip_longest (λ x y. y) true false to words

-- they stand before what is left
over_parts : (to words : List ℕ) → length words ≤ length to → over to words ≡ words ++ drop (length words) to
over_parts [] [] p = refl
over_parts (t ∷ to) [] p = refl
over_parts [] (w ∷ words) p = absurd (omega arith)
over_parts (t ∷ to) (w ∷ words) p = ap (λ l. w ∷ l) (over_parts to words (omega arith))

-- of a row that is as long nothing is left
pub over_all : (to words : List ℕ) → length to ≡ length words → over to words ≡ words
over_all to words e =
    over_parts to words (omega arith) ∙ rw (drop_all (length words) to (omega arith)) (append-nil words)

-- behind the part up to the end of a row there is nothing
past_end : (k : ℕ) (row : List ℕ) → post_of k (length row - k) row ≡ []
past_end k row = drop_all (length row - k) (drop k row) (omega (arith, length-drop k row))

module _ (f : ℕ → ℕ → ℕ) where
  -- where the second row is as long as the first, each word is a joined one
  pub placed_all : (to xs ys : List ℕ) → length to ≡ length xs → length xs ≤ length ys
      → over to (zip2 f xs ys) ≡ zip_longest f true false xs ys
  placed_all to xs ys e p = over_all to (zip2 f xs ys) (omega (arith, length-both f xs ys))
      ∙ rw (← with_rest f xs ys, drop_all (length ys) xs p, append-nil)

  module _ (to xs ys row : List ℕ) (long : length to ≡ length xs) (shorter : length ys ≤ length xs)
      (placed : row ≡ over to (zip2 f xs ys)) where
    -- the joined words, and others behind them
    with_others : (others : List ℕ) → put_mid (length ys) (length row - length ys) row others ≡ zip2 f xs ys ++ others
    with_others others =
        let common : length (zip2 f xs ys) ≡ length ys = length-both f xs ys ∙ omega arith in
        let front : take (length ys) row ≡ zip2 f xs ys =
        rw (placed, over_parts to (zip2 f xs ys) (omega arith)) (take_at (zip2 f xs ys) _ (length ys) common) in
        rw (front, past_end (length ys) row, append-nil)

    -- with the rest of the first row they are the two rows joined
    pub placed_rest : (rest : List ℕ) → rest ≡ drop (length ys) xs
        → put_mid (length ys) (length row - length ys) row rest ≡ zip_longest f true false xs ys
    placed_rest rest are = with_others rest ∙ ap (λ l. zip2 f xs ys ++ l) are ∙ with_rest f xs ys

    -- with zeros they are the same with zeros
    pub placed_zeros : (zeros : List ℕ) → put_mid (length ys) (length row - length ys) row zeros
        ≡ put_mid (length ys) (length (zip_longest f true false xs ys) - length ys)
        (zip_longest f true false xs ys) zeros
    placed_zeros zeros =
        rw (
          with_others zeros,
          kept_first f xs ys shorter,
          past_end (length ys) (zip_longest f true false xs ys),
          append-nil,
        )

    pub length-placed : length row ≡ length xs
    length-placed = ap length placed ∙ length-kept (λ x y. y) to (zip2 f xs ys) ∙ long
