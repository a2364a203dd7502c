-- A byte found among the first of a text.
use Rattle.std.proofs.Common.{◌≡◌, ℕ, ◌+◌, ◌<◌, ◌≤◌, List, length, get_or, Some, eqb, ap, ◌∙◌, refl, arith, lt-ltb}
use Rattle.std.specs.List.{position, position_or_len}
use lib.Lanes.{chunk}
use Rattle.std.proofs.lemmas.List.Sums.{position_or_len_is}
use Rattle.std.proofs.lemmas.Simd.{run_in_chunk_fails, run_in_chunk_stops}

-- what is the first of the front is the first of all
pub position_near : (b : ℕ) (xs : List ℕ) (n k : ℕ) → n ≤ length xs → k ≡ position_or_len (λ x. eqb x b) (chunk 0 n xs)
    → k < n → Some k ≡ position (λ x. eqb x b) xs
position_near b xs n k room first near =
    let same : k ≡ 0 + k = omega arith in
    let is : position_or_len (λ x. eqb x b) xs ≡ k =
    position_or_len_is (λ x. eqb x b) xs k 0 (omega arith)
    (λ i lt. run_in_chunk_fails (λ x. eqb x b) xs 0 n k 0 (omega arith) first i (omega arith) (omega arith))
    (λ lt. ap (λ i. eqb (get_or xs i 0) b) same
    ∙ run_in_chunk_stops (λ x. eqb x b) xs 0 n k 0 (omega arith) first near) in
    rw (is, lt-ltb k (length xs) (omega arith)) refl
