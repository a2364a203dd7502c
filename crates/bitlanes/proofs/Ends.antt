-- The first word and the last word that is not 0, where the words before or behind are known to be 0.
use Rattle.std.proofs.Common.{◌≡◌, ℕ, inl, inr, ◌+◌, ◌<◌, ◌≤◌, ◌==◌, true, Option, Some, None, IfNone, List}
use Rattle.std.proofs.Common.{length, drop, slice_index, ◌∙◌, arith}
use Rattle.std.specs.List.{list_all}
use Rattle.std.specs.Simd.Lanes.{chunk}
use Rattle.std.proofs.lemmas.Bool.{cases_lt}
use Rattle.std.proofs.lemmas.List.{get_or_past, get_or-drop}
use Rattle.bitlanes.specs.Search.{IsNextOne, IsPreviousOne, IsFirstOne, IsLastOne}
use Rattle.bitlanes.specs.Search.{AreZerosFrom, AreZerosBelow, AreZeros}
use Rattle.bitlanes.proofs.Stopping.{zeros_upto}

pub IfNone_then : {X : Type 0} (o : Option X) {P Q : Type 0} → IfNone o P → (P → Q) → IfNone o Q
IfNone_then None h f = f h
IfNone_then (Some x) h f = tt

-- four words that are 0 are a lane of zeros
pub zeros_in_lane : (k : ℕ) (xs : List ℕ) → ((i : ℕ) → k ≤ i → i < k + 4 → slice_index xs i ≡ 0)
    → list_all (λ w. w == 0) (chunk k 4 xs) ≡ true
zeros_in_lane k xs zeros =
    zeros_upto 4 (drop k xs) (λ i below. get_or-drop k xs i 0 ∙ zeros (k + i) (omega arith) (omega (arith, below)))

module _ (ws : List ℕ) (start : ℕ) (before : (i : ℕ) → i < start → slice_index ws i ≡ 0) where
  pub first_behind : (k : ℕ) → IsNextOne ws start k → IsFirstOne ws k
  first_behind k found = record {
    after = omega arith;
    within = found.within;
    one = found.one;
    zeros = λ i _ below. elim (cases_lt i start) [
      | inl early ↦ before i early
      | inr late ↦ found.zeros i late below
    ];
  }

  pub zeros_behind : AreZerosFrom ws start → AreZeros ws
  zeros_behind zeros i _ = elim (cases_lt i start) [
    | inl early ↦ before i early
    | inr late ↦ zeros i late
  ]

module _ (ws : List ℕ) (end : ℕ) (within : end ≤ length ws)
    (behind : (i : ℕ) → end ≤ i → i < length ws → slice_index ws i ≡ 0) where
  pub last_before : (k : ℕ) → IsPreviousOne ws end k → IsLastOne ws k
  last_before k found = record {
    before = omega (arith, found.before, within);
    one = found.one;
    zeros = λ i after below. elim (cases_lt i end) [
      | inl early ↦ found.zeros i after early
      | inr late ↦ behind i late below
    ];
  }

  pub zeros_before : AreZerosBelow ws end → AreZeros ws
  zeros_before zeros i _ = elim (cases_lt i end) [
    | inl early ↦ zeros i early
    | inr late ↦ elim (cases_lt i (length ws)) [
      | inl below ↦ behind i late below
      | inr past ↦ get_or_past ws i 0 past
    ]
  ]
