-- the lanes that a test reads, up to the first word that is not 0
use Rattle.std.proofs.Common.{◌≡◌, ℕ, zero, suc, ◌+◌, ◌*◌, ◌<◌, ◌≤◌, ◌==◌, true, false, List}
use Rattle.std.proofs.Common.{[], ◌∷◌, length, take, slice_index, refl, arith}
use Rattle.std.specs.List.{list_all}
use Rattle.std.specs.Simd.Lanes.{chunk}
use Rattle.std.proofs.lemmas.Bool.Decides.{nat_tests}
use Rattle.bitlanes.specs.Search.{IsFirstOne}
use Rattle.bitlanes.specs.Words.{lane_steps}
use Rattle.bitlanes.proofs.Folding.{all_chunk, zero_in_stretch}

-- a stretch whose words are 0, one by one
pub zeros_upto : (n : ℕ) (xs : List ℕ) → ((i : ℕ) → i < n → slice_index xs i ≡ 0)
    → list_all (λ w. w == 0) (take n xs) ≡ true
zeros_upto zero xs h = refl
zeros_upto (suc n) [] h = refl
zeros_upto (suc n) (x ∷ xs) h =
    rw (h 0 (omega arith)) (zeros_upto n xs (λ i below. h (suc i) (omega arith)))

-- words that are 0 stand before it
first_behind : (n k : ℕ) (xs : List ℕ) → list_all (λ w. w == 0) (take n xs) ≡ true → IsFirstOne xs k → n ≤ k
first_behind n k xs zeros first = grind (arith, zero_in_stretch 0 n xs zeros k, first.one)

-- words that stand before it are 0
zeros_before : (n m k : ℕ) (xs : List ℕ) → IsFirstOne xs k → n + m ≤ k
    → list_all (λ w. w == 0) (chunk n m xs) ≡ true
zeros_before n m k xs first before =
    grind (
      arith,
      nat_tests,
      all_chunk (λ (w : ℕ). w == 0) 0 n m xs,
      zeros_upto (n + m) xs (λ i below. first.zeros i (omega arith) (omega arith)),
    )

-- where a lane has it, that lane is the last one that is read
pub stops_in_lane : (old new at : ℕ) (xs lane : List ℕ) → 4 * new ≡ 4 * old + at
    → list_all (λ w. w == 0) (take at xs) ≡ true → lane ≡ chunk at 4 xs → list_all (λ w. w == 0) lane ≡ false
    → (now : ℕ) → now ≡ new + 1 → (k : ℕ) → IsFirstOne xs k → now ≡ old + lane_steps (k + 1)
stops_in_lane old new at xs lane cost zeros is some now tick k first =
    let has : list_all (λ w. w == 0) (chunk at 4 xs) ≡ false = rw is at some in
    grind (arith, cost, tick, has, first_behind at k xs zeros first, zeros_before at 4 k xs first)

-- behind the whole lanes, the words that are left are the last lane
pub stops_in_part : (old new at : ℕ) (xs : List ℕ) → 4 * new ≡ 4 * old + at
    → list_all (λ w. w == 0) (take at xs) ≡ true → length xs ≤ at + 3
    → (now : ℕ) → now ≡ new + 1 → (k : ℕ) → IsFirstOne xs k → now ≡ old + lane_steps (k + 1)
stops_in_part old new at xs cost zeros few now tick k first =
    omega (arith, cost, tick, first_behind at k xs zeros first, first.within)

-- where each word is 0, there is none
pub none_left : (at : ℕ) (xs : List ℕ) → length xs ≤ at → list_all (λ w. w == 0) (take at xs) ≡ true → (k : ℕ)
    → IsFirstOne xs k → ⊥
none_left at xs all zeros k first = omega (arith, first_behind at k xs zeros first, first.within)
