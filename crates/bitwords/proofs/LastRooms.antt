-- The last place with room, searched run by run.
use Rattle.std.proofs.Common.{◌≡◌, ℕ, inl, inr, ◌+◌, ◌-◌, ◌<◌, ◌≤◌, ◌&&◌, not}
use Rattle.std.proofs.Common.{◌/◌, true, false, Some, None, List, sym, ap, ◌∙◌, arith}
use Rattle.std.specs.List.{last_or}
use Rattle.std.proofs.lemmas.Bool.{cases_lt}
use Rattle.std.proofs.lemmas.Bool.Decides.{nat_tests}
use Rattle.bitlanes.specs.Words.{lane_steps}
use Rattle.bitwords.specs.AscendingFacts.{ascending-none, last-ascending}
use Rattle.bitwords.specs.CountFacts.{count-suc, count-mono}
use Rattle.bitwords.specs.Gaps.{has_room_in, last_room}
use Rattle.bitwords.specs.GapsFacts.{pass-fails}
use Rattle.bitwords.specs.Neighbours.{NonePasses, IsPrevious}
use Rattle.bitwords.specs.Rows.{has_bit, bit_test, count_below}
use Rattle.bitwords.specs.Runs.{begins}
use Rattle.bitwords.specs.Steps.{range_words}
use Rattle.bitwords.proofs.RunStarts.{pass-holds}

module _ (ws : List ℕ) (end count : ℕ) where
  -- no place whose run would end behind `stop` has room
  abbrev pub NoneBehind : ℕ → Type 0
  NoneBehind stop = (q : ℕ) → stop < q + count → has_room_in (has_bit ws) end count q ≡ false

  pub none_behind_end : NoneBehind end
  unfolding has_room_in
  none_behind_end q past = grind (arith, nat_tests)

  -- a place whose run would have a taken number has none
  blocked : (q p : ℕ) → q ≤ p → p < q + count → has_bit ws p ≡ true → has_room_in (has_bit ws) end count q ≡ false
  unfolding has_room_in
  blocked q p from to taken =
      let none = pass-fails (λ r. not (has_bit ws r)) count q p from to (ap not taken) in grind arith

  -- where the run of clear numbers behind a taken one is too short
  pub none_behind_taken : (stop p : ℕ) → stop ≤ p + count → has_bit ws p ≡ true → NoneBehind stop → NoneBehind p
  none_behind_taken stop p short taken none q past = elim (cases_lt p q) [
    | inl behind ↦ none q (omega (arith, behind, short))
    | inr over ↦ blocked q p over past taken
  ]

  -- where all numbers from `low` up to `stop` are taken
  pub none_behind_run : 1 ≤ count → (low stop : ℕ) → ((i : ℕ) → low ≤ i → i < stop → has_bit ws i ≡ true)
      → NoneBehind stop → NoneBehind low
  none_behind_run some low stop all none q past = elim (cases_lt stop (q + count)) [
    | inl behind ↦ none q behind
    | inr within ↦ blocked q (q + count - 1) (omega (arith, some)) (omega (arith, some))
        (all (q + count - 1) (omega (arith, past)) (omega (arith, within, some)))
  ]

  pub room_before : (stop : ℕ) → stop ≤ end → count ≤ stop
      → ((i : ℕ) → stop - count ≤ i → i < stop → has_bit ws i ≡ false) → NoneBehind stop
      → Some (stop - count) ≡ last_room (has_bit ws) end count
  unfolding last_room has_room_in
  room_before stop within enough clear none =
      sym (last-ascending (has_room_in (has_bit ws) end count) (end + 1) (stop - count) (omega (arith, within))
      (let all = pass-holds (λ r. not (has_bit ws r)) count (stop - count)
      (λ r from to. ap not (clear r from (omega (arith, to, enough)))) in grind (arith, nat_tests))
      (λ q behind _. none q (omega (arith, behind, enough))))

  pub no_last_room : (stop : ℕ) → stop < count → NoneBehind stop → None ≡ last_room (has_bit ws) end count
  unfolding last_room
  no_last_room stop short none =
      sym (ap (last_or None) (ascending-none (has_room_in (has_bit ws) end count) 0 (end + 1)
      (λ q _ _. none q (omega (arith, short)))))

-- ---- what the searches tell

module _ (ws : List ℕ) where
  pub is_taken : (stop p : ℕ) → IsPrevious (bit_test (λ y. true && y) ws) stop p → has_bit ws p ≡ true
  unfolding bit_test
  is_taken stop p last = last.passes

  pub clear_behind : (stop p : ℕ) → IsPrevious (bit_test (λ y. true && y) ws) stop p
      → (i : ℕ) → p < i → i < stop → has_bit ws i ≡ false
  unfolding bit_test
  clear_behind stop p last = last.none

  pub clear_below : (stop : ℕ) → NonePasses (bit_test (λ y. true && y) ws) 0 stop
      → (i : ℕ) → i < stop → has_bit ws i ≡ false
  unfolding bit_test
  clear_below stop none i = none i (omega arith)

  pub taken_behind : (stop p : ℕ) → IsPrevious (bit_test (λ y. true && not y) ws) stop p
      → (i : ℕ) → p + 1 ≤ i → i < stop → has_bit ws i ≡ true
  unfolding bit_test
  taken_behind stop p last i after below = let e = last.none i (omega (arith, after)) below in grind arith

  pub taken_below : (stop : ℕ) → NonePasses (bit_test (λ y. true && not y) ws) 0 stop
      → (i : ℕ) → 0 ≤ i → i < stop → has_bit ws i ≡ true
  unfolding bit_test
  taken_below stop none i from below = let e = none i from below in grind arith

  -- ---- the steps

  -- a run begins behind the clear number before a taken one
  pub one_begins : (p z : ℕ) → has_bit ws p ≡ true → IsPrevious (bit_test (λ y. true && not y) ws) p z
      → count_below (begins (has_bit ws)) (z + 1) + 1 ≤ count_below (begins (has_bit ws)) (p + 1)
  unfolding bit_test
  one_begins p z taken last =
      let first : begins (has_bit ws) (z + 1) ≡ true = run in
      let more = count-suc (begins (has_bit ws)) (z + 1) in
      let mono = count-mono (begins (has_bit ws)) (z + 2) (p + 1) (omega (arith, last.below)) in
      grind arith
    where
      set : has_bit ws (z + 1) ≡ true
      set = elim (cases_lt (z + 1) p) [
        | inl before ↦ taken_behind p z last (z + 1) (omega arith) before
        | inr here ↦ (let e : z + 1 ≡ p = omega (arith, here, last.below) in ap (has_bit ws) e ∙ taken)
      ]

      run : begins (has_bit ws) (z + 1) ≡ true
      run = let clear = last.passes in grind (arith, nat_tests, set)

-- a search from `stop` down to `low` took one step for each lane from p on at least
pub lanes_covered : (low p stop end : ℕ) → low ≤ p → p ≤ stop → stop ≤ end → 0 < stop
    → lane_steps (range_words p end) ≤ lane_steps (range_words stop end) + 1 + lane_steps ((stop - 1) / 64 - low / 64)
lanes_covered low p stop end from to within some = grind (arith, nat_tests)
