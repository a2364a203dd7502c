-- the ones of a row, a word or more further
use Rattle.std.proofs.Common.{◌≡◌, ℕ, ◌+◌, ◌-◌, ◌*◌, ◌<◌, ◌≤◌, List, length, take, drop}
use Rattle.std.proofs.Common.{slice_index, sum_by, refl, arith, take-add, drop-drop}
use Rattle.std.specs.Simd.Lanes.{zip2, chunk}
use Rattle.std.proofs.lemmas.List.{take_all, length-take}
use Rattle.std.proofs.lemmas.List.Sums.{sum_by-append, sum_by_more, sum_by-take-le}
use Rattle.bitlanes.specs.Ones.{ones_at}
use Rattle.bitlanes.proofs.Zipping.{chunk_zip2, length_joined}

-- one word more
pub sum_more : (f : ℕ → ℕ) (k : ℕ) (xs : List ℕ) → k < length xs
    → sum_by f (take (k + 1) xs) ≡ sum_by f (take k xs) + f (slice_index xs k)
sum_more f k xs h = sum_by_more f xs k 0 h

-- the sum so far and the next word are within the whole sum
pub sum_more_le : (f : ℕ → ℕ) (k : ℕ) (xs : List ℕ) → k < length xs
    → sum_by f (take k xs) + f (slice_index xs k) ≤ sum_by f xs
sum_more_le f k xs h = omega (arith, sum_more f k xs h, sum_by-take-le f xs (k + 1))

-- n words more
sum_take : (f : ℕ → ℕ) (m n : ℕ) (xs : List ℕ)
    → sum_by f (take (m + n) xs) ≡ sum_by f (take m xs) + sum_by f (chunk m n xs)
sum_take f m n xs = rw (take-add m n xs) (sum_by-append f (take m xs) (chunk m n xs))

-- a stretch is its first m words and the n behind them
pub sum_chunk : (f : ℕ → ℕ) (i m n : ℕ) (xs : List ℕ)
    → sum_by f (chunk i (m + n) xs) ≡ sum_by f (chunk i m xs) + sum_by f (chunk (i + m) n xs)
sum_chunk f i m n xs = rw (drop-drop m i xs) at (sum_take f m n (drop i xs))

-- the ones of a stretch of two rows joined, where both are cut to it
pub ones_cut : (f : ℕ → ℕ → ℕ) (i n : ℕ) (xs ys : List ℕ)
    → ones_at 0 n f (chunk i n xs) (chunk i n ys) ≡ ones_at i n f xs ys
ones_cut f i n xs ys =
    let row : List ℕ = zip2 f (chunk i n xs) (chunk i n ys) in
    let few : length (chunk i n xs) ≤ n = omega (arith, length-take n (drop i xs)) in
    rw (take_all n row (omega (arith, length_joined f (chunk i n xs) (chunk i n ys), few)), chunk_zip2 f i n xs ys) refl

-- eight lanes more
pub sum_eight : (f : ℕ → ℕ) (k : ℕ) (xs : List ℕ)
    → sum_by f (take (32 * (k + 1)) xs) ≡ sum_by f (take (32 * k) xs) + sum_by f (chunk (32 * k) 32 xs)
sum_eight f k xs = let e : 32 * (k + 1) ≡ 32 * k + 32 = omega arith in rw e (sum_take f (32 * k) 32 xs)

-- the sum so far and that of the next eight lanes are within the sum of more
pub sum_eight_le : (f : ℕ → ℕ) (k n : ℕ) (xs : List ℕ) → k < n
    → sum_by f (take (32 * k) xs) + sum_by f (chunk (32 * k) 32 xs) ≤ sum_by f (take (32 * n) xs)
sum_eight_le f k n xs h =
    let m : ℕ = 32 * (k + 1) in
    let more : 32 * n ≡ m + 32 * (n - (k + 1)) = omega arith in
    rw more (omega (arith, sum_eight f k xs, sum_take f m (32 * (n - (k + 1))) xs))
