-- the last lane: one to three words, and zeros
use Rattle.std.proofs.Common.{◌≡◌, ℕ, zero, suc, ◌+◌, ◌-◌, lit<, ◌≤◌, ◌==◌, Bool, true}
use Rattle.std.proofs.Common.{false, ◌&&◌, List, [], ◌∷◌, ◌++◌, length, take, get_or}
use Rattle.std.proofs.Common.{slice_set, map, replicate, refl, ap, sym, ◌∙◌, arith, take-add}
use Rattle.std.specs.List.{list_all}
use Rattle.std.specs.Simd.Lanes.{zip2, chunk, put_chunk}
use Rattle.std.proofs.lemmas.Bool.Decides.{nat_tests}
use Rattle.std.proofs.lemmas.List.{take_all, take-append-le, take-replicate, length-map}
use Rattle.std.proofs.lemmas.List.Folds.{list_all-append}
use Rattle.std.proofs.lemmas.Nat.Bits.{same_from_bits, bit_at-zero, bit_at-lt}
use Rattle.std.proofs.lemmas.Simd.{length-chunk}
use Rattle.bitlanes.specs.Bits.{bit}
use Rattle.bitlanes.specs.Ops.{IsWordOp}
use Rattle.bitlanes.specs.Words.{filled}
use Rattle.bitlanes.proofs.Kept.{put_none}
use Rattle.bitlanes.proofs.Zipping.{chunk_zip2, chunk_masked}

-- ---- written, word by word

put_first : (i y : ℕ) (xs ys : List ℕ) → put_chunk i xs (y ∷ ys) ≡ put_chunk (suc i) (slice_set xs i y) ys
put_first i y [] ys = refl
put_first zero y (x ∷ xs) ys = refl
put_first (suc i) y (x ∷ xs) ys = ap (λ t. x ∷ t) (put_first i y xs ys)

pub put_one : (i : ℕ) (xs ys : List ℕ) → 1 ≤ length ys → put_chunk i xs (take 1 ys) ≡ slice_set xs i (get_or ys 0 0)
put_one i xs [] h = absurd (omega arith)
put_one i xs (y ∷ ys) h = rw (put_first i y xs []) (put_none (suc i) (slice_set xs i y))

pub put_two : (i j : ℕ) (xs ys : List ℕ) → j ≡ i + 1 → 2 ≤ length ys
    → put_chunk i xs (take 2 ys) ≡ slice_set (slice_set xs i (get_or ys 0 0)) j (get_or ys 1 0)
put_two i j xs [] e h = absurd (omega arith)
put_two i j xs (y ∷ ys) e h =
    put_first i y xs (take 1 ys) ∙ ap (λ k. put_chunk k (slice_set xs i y) (take 1 ys)) (omega (arith, e))
    ∙ put_one j (slice_set xs i y) ys (omega arith)

pub put_three : (i j k : ℕ) (xs ys : List ℕ) → j ≡ i + 1 → k ≡ j + 1 → 3 ≤ length ys
    → put_chunk i xs (take 3 ys) ≡ slice_set (slice_set (slice_set xs i (get_or ys 0 0)) j (get_or ys 1 0)) k
    (get_or ys 2 0)
put_three i j k xs [] e f h = absurd (omega arith)
put_three i j k xs (y ∷ ys) e f h =
    put_first i y xs (take 2 ys) ∙ ap (λ k. put_chunk k (slice_set xs i y) (take 2 ys)) (omega (arith, e))
    ∙ put_two j k (slice_set xs i y) ys f (omega arith)

-- ---- joined

-- the first words of a filled lane
pub take_filled : (i n : ℕ) (xs : List ℕ) → i + n ≤ length xs → take n (filled i n xs) ≡ chunk i n xs
take_filled i n xs within =
    grind (arith, length-chunk i n xs, take-append-le n (chunk i n xs) (replicate (4 - n) 0), take_all n (chunk i n xs))

zip2_append : (f : ℕ → ℕ → ℕ) (us vs xs ys : List ℕ) → length us ≡ length vs
    → zip2 f (us ++ xs) (vs ++ ys) ≡ zip2 f us vs ++ zip2 f xs ys
zip2_append f [] [] xs ys e = refl
zip2_append f (u ∷ us) (v ∷ vs) xs ys e = ap (λ t. f u v ∷ t) (zip2_append f us vs xs ys (omega arith))
zip2_append f us vs xs ys e = absurd (omega arith)

zip2_zeros : (f : ℕ → ℕ → ℕ) → f 0 0 ≡ 0 → (k : ℕ) → zip2 f (replicate k 0) (replicate k 0) ≡ replicate k 0
zip2_zeros f h zero = refl
zip2_zeros f h (suc k) = rw (h, zip2_zeros f h k) refl

-- two lanes filled with as many zeros
zip2_filled : (f : ℕ → ℕ → ℕ) → f 0 0 ≡ 0 → (i j n : ℕ) (xs ys : List ℕ) → i + n ≤ length xs → j + n ≤ length ys
    → zip2 f (filled i n xs) (filled j n ys) ≡ zip2 f (chunk i n xs) (chunk j n ys) ++ replicate (4 - n) 0
zip2_filled f h i j n xs ys p q =
    rw (zip2_zeros f h (4 - n)) at (zip2_append f (chunk i n xs) (chunk j n ys) (replicate (4 - n) 0)
    (replicate (4 - n) 0) (length-chunk i n xs p ∙ sym (length-chunk j n ys q)))

pub filled_joined : (f : ℕ → ℕ → ℕ) → f 0 0 ≡ 0 → (i n : ℕ) (xs ys : List ℕ) → i + n ≤ length xs → i + n ≤ length ys
    → zip2 f (filled i n xs) (filled i n ys) ≡ filled i n (zip2 f xs ys)
filled_joined f h i n xs ys p q =
    zip2_filled f h i i n xs ys p q ∙ ap (λ t. t ++ replicate (4 - n) 0) (sym (chunk_zip2 f i n xs ys))

-- one word joined with each word of a part
pub filled_masked : (f : ℕ → ℕ → ℕ) → f 0 0 ≡ 0 → (mask i n : ℕ) (xs : List ℕ) → n ≤ 4 → i + n ≤ length xs
    → zip2 f (filled 0 n (replicate 4 mask)) (filled i n xs) ≡ filled i n (map (f mask) xs)
filled_masked f h mask i n xs few within =
    rw (
      zip2_filled f h 0 i n (replicate 4 mask) xs (omega arith) within,
      take-replicate n 4 mask few,
      chunk_masked f mask i n xs within,
    ) refl

-- no bit joined with no bit is no bit, so nothing joined with nothing is nothing
pub nothing_joined : {f : ℕ → ℕ → ℕ} {t : Bool → Bool → Bool} {keep take : Bool} → IsWordOp f t keep take → f 0 0 ≡ 0
nothing_joined {f} {t} law = same_from_bits (f 0 0) 0 (λ i.
    let unset : bit 0 i ≡ false = ap (λ d. d == 1) (bit_at-zero i) in
    let neither : bit (f 0 0) i ≡ false = law.by_bits 0 0 i (lit< tt) (lit< tt)
    ∙ (ap (λ x. t x x) unset ∙ law.of_neither) in
    grind (arith, nat_tests, bit_at-zero i, bit_at-lt (f 0 0) i))

-- ---- the whole lanes and the last

are_zeros : (k : ℕ) → list_all (λ w. w == 0) (replicate k 0) ≡ true
are_zeros zero = refl
are_zeros (suc k) = are_zeros k

-- each word is 0 exactly if those of the whole lanes are and those of the last lane
pub all_with_part : (i n : ℕ) (xs : List ℕ) → i + n ≡ length xs
    → (list_all (λ w. w == 0) (take i xs) && list_all (λ w. w == 0) (filled i n xs)) ≡ list_all (λ w. w == 0) xs
all_with_part i n xs e =
    let p = λ (w : ℕ). w == 0 in
    let whole : take i xs ++ chunk i n xs ≡ xs = sym (take-add i n xs) ∙ take_all (i + n) xs (omega arith) in
    let last = list_all-append p (chunk i n xs) (replicate (4 - n) 0) in
    grind
    (arith, nat_tests, last, are_zeros (4 - n), list_all-append p (take i xs) (chunk i n xs), ap (list_all p) whole)

-- where each word of the whole lanes is 0, the last lane tells of all
pub all_part : (i n : ℕ) (xs : List ℕ) → i + n ≡ length xs → list_all (λ w. w == 0) (take i xs) ≡ true
    → list_all (λ w. w == 0) (filled i n xs) ≡ list_all (λ w. w == 0) xs
all_part i n xs e zeros = rw zeros at (all_with_part i n xs e)

-- of words that were each made into another one
pub all_mapped_part : (f : ℕ → ℕ) (i n : ℕ) (xs : List ℕ) → i + n ≡ length xs
    → list_all (λ w. w == 0) (take i (map f xs)) ≡ true
    → list_all (λ w. w == 0) (filled i n (map f xs)) ≡ list_all (λ w. w == 0) (map f xs)
all_mapped_part f i n xs e zeros = all_part i n (map f xs) (e ∙ sym (length-map xs f)) zeros
