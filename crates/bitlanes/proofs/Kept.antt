-- how the words of a row are joined with those of another one, by lanes of four and a last part; the rest is kept
use Rattle.std.proofs.Common.{◌≡◌, ℕ, zero, suc, ◌+◌, ◌-◌, ◌≤◌, List, [], ◌∷◌, ◌++◌, length}
use Rattle.std.proofs.Common.{take, drop, refl, sym, ap, arith, min, true, false, take-add, ◌<◌}
use Rattle.std.proofs.Common.{slice_index, slice_set}
use Rattle.std.proofs.lemmas.List.{length-take-le, take_all}
use Rattle.std.specs.Simd.Lanes.{zip2, chunk, put_chunk}
use Rattle.bitlanes.specs.Words.{zip_longest}

pub kept_none : (f : ℕ → ℕ → ℕ) (xs : List ℕ) → zip_longest f true false xs [] ≡ xs
kept_none f [] = refl
kept_none f (x ∷ xs) = refl

pub put_none : (i : ℕ) (xs : List ℕ) → put_chunk i xs [] ≡ xs
put_none i [] = refl
put_none zero (x ∷ xs) = refl
put_none (suc i) (x ∷ xs) = ap (λ t. x ∷ t) (put_none i xs)

-- n words more, after i words
kept_more : (f : ℕ → ℕ → ℕ) (n i : ℕ) (xs ys : List ℕ) → i + n ≤ length xs → i + n ≤ length ys
    → put_chunk i (zip_longest f true false xs (take i ys))
    (zip2 f (chunk i n (zip_longest f true false xs (take i ys))) (chunk i n ys))
    ≡ zip_longest f true false xs (take i ys ++ chunk i n ys)
kept_more f zero zero xs ys p q = put_none 0 (zip_longest f true false xs [])
kept_more f (suc n) zero (x ∷ xs) (y ∷ ys) p q =
    ap (λ t. f x y ∷ t) (rw kept_none at (kept_more f n zero xs ys (omega arith) (omega arith)))
kept_more f n (suc i) (x ∷ xs) (y ∷ ys) p q = ap (λ t. f x y ∷ t) (kept_more f n i xs ys (omega arith) (omega arith))
kept_more f n i xs ys p q = absurd (omega arith)

-- one lane more, or the last words
pub kept_next : (f : ℕ → ℕ → ℕ) (n i : ℕ) (xs ys : List ℕ) → i + n ≤ length xs → i + n ≤ length ys
    → put_chunk i (zip_longest f true false xs (take i ys))
    (zip2 f (chunk i n (zip_longest f true false xs (take i ys))) (chunk i n ys))
    ≡ zip_longest f true false xs (take (i + n) ys)
kept_next f n i xs ys p q = rw (take-add) (kept_more f n i xs ys p q)

kept_suc : (f : ℕ → ℕ → ℕ) (i : ℕ) (xs ys : List ℕ) → i < length xs → i < length ys
    → slice_set (zip_longest f true false xs (take i ys)) i
    (f (slice_index (zip_longest f true false xs (take i ys)) i) (slice_index ys i))
    ≡ zip_longest f true false xs (take (suc i) ys)
kept_suc f zero (x ∷ xs) (y ∷ ys) p q = ap (λ t. f x y ∷ t) (sym (kept_none f xs))
kept_suc f (suc i) (x ∷ xs) (y ∷ ys) p q = ap (λ t. f x y ∷ t) (kept_suc f i xs ys (omega arith) (omega arith))
kept_suc f i xs ys p q = absurd (omega arith)

-- one word more
pub kept_word : (f : ℕ → ℕ → ℕ) (i : ℕ) (xs ys : List ℕ) → i < length xs → i < length ys
    → slice_set (zip_longest f true false xs (take i ys)) i
    (f (slice_index (zip_longest f true false xs (take i ys)) i) (slice_index ys i))
    ≡ zip_longest f true false xs (take (i + 1) ys)
kept_word f i xs ys p q = let next : i + 1 ≡ suc i = omega arith in rw next (kept_suc f i xs ys p q)

-- ---- both rows cut to the length of the shorter one

-- what is cut off stays
kept_behind : (f : ℕ → ℕ → ℕ) (w : ℕ) (xs ys : List ℕ) → w ≡ min (length xs) (length ys)
    → zip_longest f true false (take w xs) (take w ys) ++ drop w xs ≡ zip_longest f true false xs ys
kept_behind f zero [] [] e = refl
kept_behind f zero [] (y ∷ ys) e = refl
kept_behind f zero (x ∷ xs) [] e = refl
kept_behind f zero (x ∷ xs) (y ∷ ys) e = absurd (omega (arith, e))
kept_behind f (suc w) (x ∷ xs) (y ∷ ys) e = ap (λ t. f x y ∷ t) (kept_behind f w xs ys (omega (arith, e)))
kept_behind f (suc w) [] ys e = absurd (omega (arith, e))
kept_behind f (suc w) (x ∷ xs) [] e = absurd (omega (arith, e))

-- where the words before i are joined: the last ones, and what is cut off
module _ (f : ℕ → ℕ → ℕ) (w i : ℕ) (xs ys : List ℕ) (e : w ≡ min (length xs) (length ys)) where
  pub kept_rest : i ≤ w
      → put_chunk i (zip_longest f true false (take w xs) (take i (take w ys)))
      (zip2 f (chunk i (w - i) (zip_longest f true false (take w xs) (take i (take w ys))))
      (chunk i (w - i) (take w ys))) ++ drop w xs ≡ zip_longest f true false xs ys
  kept_rest within =
      let long = length-take-le w xs (omega (arith, e)) in
      let long_other = length-take-le w ys (omega (arith, e)) in
      let all : i + (w - i) ≡ w = omega (arith, within) in
      let last = kept_next f (w - i) i (take w xs) (take w ys) (omega (arith, long, all))
      (omega (arith, long_other, all)) in
      rw (last, all, take_all w (take w ys) (omega (arith, long_other))) (kept_behind f w xs ys e)

  pub kept_whole : i ≡ w → zip_longest f true false (take w xs) (take i (take w ys)) ++ drop w xs
      ≡ zip_longest f true false xs ys
  kept_whole all =
      let long_other = length-take-le w ys (omega (arith, e)) in
      rw (all, take_all w (take w ys) (omega (arith, long_other))) (kept_behind f w xs ys e)
