-- tests of a list, one lane of four further, and lists of zeros
use Rattle.std.proofs.Common.{◌≡◌, ℕ, zero, suc, ◌+◌, ◌-◌, ◌≤◌, Bool, true, false, ◌==◌, ◌<◌, ◌&&◌, List, slice_index}
use Rattle.std.proofs.Common.{slice_set, [], ◌∷◌, length, take, drop, map, replicate, bit_or, refl, sym, ap, ◌∙◌, arith}
use Rattle.std.proofs.Common.{take-add}
use Rattle.std.specs.List.{list_all}
use Rattle.std.specs.Simd.Lanes.{zip2, fold_l, chunk, put_chunk}
use Rattle.std.proofs.lemmas.Bool.Decides.{nat_tests}
use Rattle.std.proofs.lemmas.List.{length-take, length-drop, take-map, drop-take, take_all, get_or_past}
use Rattle.std.proofs.lemmas.List.{drop-map, take-append-drop, replicate-append-replicate, drop-drop}
use Rattle.std.proofs.lemmas.List.{take_more_set}
use Rattle.std.proofs.lemmas.List.Folds.{list_all_at, list_all-append}
use Rattle.std.proofs.lemmas.Nat.{le_or_l}
use Rattle.std.proofs.lemmas.Simd.{chunk-drop, get_or-chunk, take_more_put_chunk}

bit_or-is_zero : (a b : ℕ) → (bit_or a b == 0) ≡ ((a == 0) && (b == 0))
bit_or-is_zero zero b = refl
bit_or-is_zero (suc a) b = grind (arith, nat_tests, le_or_l (suc a) b)

fold_or : (a : ℕ) (xs : List ℕ) → (fold_l bit_or a xs == 0) ≡ ((a == 0) && list_all (λ w. w == 0) xs)
fold_or a [] = grind (arith, nat_tests)
fold_or a (x ∷ xs) = grind (arith, nat_tests, fold_or (bit_or a x) xs, bit_or-is_zero a x)

-- the words of a lane, joined by `or`, are 0 where each is
pub or_of_lane : (xs : List ℕ) → (fold_l bit_or 0 xs == 0) ≡ list_all (λ w. w == 0) xs
or_of_lane = fold_or 0

-- the test of one lane more
pub all_lane : (p : ℕ → Bool) (i : ℕ) (xs : List ℕ)
    → list_all p (take (i + 4) xs) ≡ (list_all p (take i xs) && list_all p (chunk i 4 xs))
all_lane p i xs = rw (take-add i 4 xs) (list_all-append p (take i xs) (chunk i 4 xs))

-- where a stretch fails, the whole does
pub fails_within : (p : ℕ → Bool) (i n : ℕ) (xs : List ℕ) → list_all p (chunk i n xs) ≡ false → list_all p xs ≡ false
fails_within p i n xs h =
    grind (
      arith,
      nat_tests,
      take-append-drop i xs,
      chunk-drop i n xs,
      list_all-append p (take i xs) (drop i xs),
      list_all-append p (chunk i n xs) (drop (i + n) xs),
    )

pub zeros_lane : (i : ℕ) (xs : List ℕ) → i + 4 ≤ length xs → take i xs ≡ replicate i 0
    → take (i + 4) (put_chunk i xs (replicate 4 0)) ≡ replicate (i + 4) 0
zeros_lane i xs le h =
    rw (
      take_more_put_chunk i xs (replicate 4 0) (i + 4) (omega arith) (omega arith),
      h,
      replicate-append-replicate {A = ℕ} i 4 0,
    ) refl

-- one word more
pub zeros_word : (i : ℕ) (xs : List ℕ) → i < length xs → take i xs ≡ replicate i 0
    → take (i + 1) (slice_set xs i 0) ≡ replicate (i + 1) 0
zeros_word i xs le h = rw (take_more_set xs i 0 le, h) (replicate-append-replicate {A = ℕ} i 1 0)

-- what lies past a lane stays as it is written
pub drop_put : (n i : ℕ) (xs ys : List ℕ) → i + length ys ≤ n → drop n (put_chunk i xs ys) ≡ drop n xs
drop_put n i [] ys p = refl
drop_put n zero (x ∷ xs) [] p = refl
drop_put (suc n) zero (x ∷ xs) (y ∷ ys) p = drop_put n zero xs ys (omega arith)
drop_put (suc n) (suc i) (x ∷ xs) ys p = drop_put n i xs ys (omega arith)
drop_put n i xs ys p = absurd (omega arith)

-- where each word is 0, so is word i
all_zero : (xs : List ℕ) → list_all (λ w. w == 0) xs ≡ true → (i : ℕ) → slice_index xs i ≡ 0
all_zero xs h i = grind (arith, nat_tests, list_all_at (λ (w : ℕ). w == 0) xs i 0, get_or_past xs i 0)

-- where each word of two rows joined by `or` is 0, each of both is
pub or_of_rows : (xs ys : List ℕ) → length xs ≡ length ys
    → list_all (λ w. w == 0) (zip2 bit_or xs ys) ≡ (list_all (λ w. w == 0) xs && list_all (λ w. w == 0) ys)
or_of_rows [] [] e = refl
or_of_rows (x ∷ xs) (y ∷ ys) e = grind (arith, nat_tests, bit_or-is_zero x y, or_of_rows xs ys (omega arith))
or_of_rows xs ys e = absurd (omega arith)

-- a stretch is its first m words and the n behind them
pub all_chunk : (p : ℕ → Bool) (i m n : ℕ) (xs : List ℕ)
    → list_all p (chunk i (m + n) xs) ≡ (list_all p (chunk i m xs) && list_all p (chunk (i + m) n xs))
all_chunk p i m n xs =
    rw (take-add m n (drop i xs), drop-drop m i xs) (list_all-append p (chunk i m xs) (chunk (i + m) n xs))

-- the words of a stretch, as those of the row
pub zero_in_stretch : (k n : ℕ) (xs : List ℕ) → list_all (λ w. w == 0) (chunk k n xs) ≡ true → (i : ℕ) → k ≤ i
    → i < k + n → slice_index xs i ≡ 0
zero_in_stretch k n xs h i from to =
    grind (arith, get_or-chunk k n xs (i - k) 0, all_zero (chunk k n xs) h (i - k))

-- the words of a lane, as those of the row
pub zero_in_lane : (k : ℕ) (xs : List ℕ) → list_all (λ w. w == 0) (chunk k 4 xs) ≡ true → (i : ℕ) → k ≤ i → i < k + 4
    → slice_index xs i ≡ 0
zero_in_lane k xs = zero_in_stretch k 4 xs

-- the lane at the front of what is left of a row
pub lane_of_rest : (f : ℕ → ℕ) (k : ℕ) (ws rest : List ℕ) → rest ≡ drop k ws
    → chunk 0 4 (map f rest) ≡ chunk k 4 (map f ws)
lane_of_rest f k ws rest same = ap (λ xs. chunk 0 4 xs) (ap (map f) same ∙ sym (drop-map f k ws))

-- the last lane of the front of a row
pub lane_of_front : (f : ℕ → ℕ) (k end : ℕ) (ws : List ℕ) → end ≡ k + 4
    → chunk k 4 (map f (take end ws)) ≡ chunk k 4 (map f ws)
lane_of_front f k end ws e =
    ap (λ xs. chunk k 4 xs) (sym (take-map f end ws) ∙ ap (λ n. take n (map f ws)) e)
    ∙ ap (take 4) (drop-take k 4 (map f ws))
    ∙ take_all 4 (take 4 (drop k (map f ws))) (omega (arith, length-take 4 (drop k (map f ws))))

-- what is left of a row behind the lane at its front, as `&rest[4..]` writes it
module _ (ws rest : List ℕ) (n : ℕ) (left : n ≡ length rest - 4) (four : 4 ≤ length rest)
    (same : rest ≡ drop (length ws - length rest) ws) (within : length rest ≤ length ws) where
  pub length_left : length (take n (drop 4 rest)) + 4 ≡ length rest
  length_left =
      let enough = take_all n (drop 4 rest) (omega (arith, left, length-drop 4 rest)) in
      omega (arith, left, four, length-drop 4 rest, ap length enough)

  pub rest_left : take n (drop 4 rest) ≡ drop (length ws - length (take n (drop 4 rest))) ws
  rest_left =
      take_all n (drop 4 rest) (omega (arith, left, length-drop 4 rest))
      ∙ ap (drop 4) same
      ∙ drop-drop 4 (length ws - length rest) ws
      ∙ ap (λ k. drop k ws) (omega (arith, length_left, four, within))
