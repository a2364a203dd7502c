-- The first place with room among the bits of words, and among the positions of their value.
use Rattle.std.proofs.Common.{◌≡◌, ℕ, suc, inl, inr, ◌⊎◌, ◌+◌, ◌-◌, ◌*◌, ◌<◌, ◌≤◌, min, ◌&&◌, not, nat_le, None}
use Rattle.std.specs.Int.{div_ceil}
use Rattle.std.specs.List.{last_or}
use Rattle.std.proofs.Common.{nat_lt, Bool, true, false, List, slice_get, refl, sym, ap, ◌∙◌, arith}
use Rattle.std.proofs.lemmas.Bool.{cases_Bool, true≢false, false_from_ne_true, le-leb}
use Rattle.std.proofs.lemmas.Bool.Decides.{leb_tells, nat_tests}
use lib.Dec.{leb}
use Rattle.bitwords.specs.Ascending.{ascending}
use Rattle.bitwords.specs.AscendingFacts.{ascending-same, ascending-cut}
use Rattle.bitwords.specs.CountFacts.{count-same}
use Rattle.bitwords.specs.Gaps.{all_pass, is_multiple, has_room_in, first_room, first_aligned_room}
use Rattle.bitwords.specs.Gaps.{last_room, last_steps}
use Rattle.bitwords.specs.GapsFacts.{pass-fails, pass-finds}
use Rattle.bitwords.specs.Rows.{has_bit}
use Rattle.bitwords.specs.Runs.{begins}
use Rattle.fixedbitset.specs.Bits.{contains, of_words}
use Rattle.fixedbitset.specs.Ranges.{contains_any}
use Rattle.fixedbitset.specs.RangesFacts.{contains_any-tells}
use Rattle.fixedbitset.specs.Runs.{has_room, first_gap, first_aligned_gap, last_gap}
use Rattle.fixedbitset.specs.Stored.{IsClean}
use Rattle.fixedbitset.specs.WordsFacts.{length-of_words, contains-of_words}
use Rattle.fixedbitset.proofs.Words.{contains_word}

module _ (n : ℕ) (ws : List ℕ) (count p : ℕ) where
  -- some position of the stretch is set exactly if not all are clear
  any_set : p + count ≤ n
      → contains_any (of_words n ws) p (p + count) ≡ not (all_pass (λ q. not (has_bit ws q)) count p)
  any_set within = elim (cases_Bool (all_pass (λ q. not (has_bit ws q)) count p)) [
    | inl clear ↦ (let none = false_from_ne_true (contains_any (of_words n ws) p (p + count)) (λ some.
        let one = (contains_any-tells (of_words n ws) p (p + count)).0 some in
        let set : has_bit ws one.0 ≡ true =
        first (has_bit ws one.0) (nat_lt one.0 n) (sym (contains-of_words n ws one.0) ∙ one.3) in
        true≢false (sym clear ∙ pass-fails (λ q. not (has_bit ws q)) count p one.0 one.1 one.2 (ap not set))) in
        none ∙ sym (ap not clear))
    | inr blocked ↦ (
        let one = pass-finds (λ q. not (has_bit ws q)) count p blocked in
        let set : has_bit ws one.0 ≡ true = flip (has_bit ws one.0) one.3 in
        let below : nat_lt one.0 n ≡ true = le-leb (suc one.0) n (omega (arith, one.2)) in
        let in_set : contains (of_words n ws) one.0 ≡ true = contains-of_words n ws one.0 ∙ (λ j. set j && below j) in
        (contains_any-tells (of_words n ws) p (p + count)).1 (one.0, one.1, one.2, in_set) ∙ sym (ap not blocked))
  ]
    where
      first : (x y : Bool) → (x && y) ≡ true → x ≡ true
      first true y e = refl
      first false y e = e

      flip : (x : Bool) → not x ≡ false → x ≡ true
      flip true e = refl
      flip false e = absurd (true≢false e)

  same_room : has_room (of_words n ws) count p ≡ has_room_in (has_bit ws) n count p
  unfolding has_room has_room_in
  same_room = ap (λ m. nat_le (p + count) m && not (contains_any (of_words n ws) p (p + count))) (length-of_words n ws)
      ∙ by_end (leb_tells (p + count) n)
    where
      twice : (x : Bool) → not (not x) ≡ x
      twice true = refl
      twice false = refl

      by_end : ((leb (p + count) n ≡ true) × (p + count ≤ n)) ⊎ ((leb (p + count) n ≡ false) × (n < p + count))
          → (nat_le (p + count) n && not (contains_any (of_words n ws) p (p + count)))
          ≡ (nat_le (p + count) n && all_pass (λ q. not (has_bit ws q)) count p)
      by_end (inl (_, within)) =
          ap (λ x. nat_le (p + count) n && x)
          (ap not (any_set within) ∙ twice (all_pass (λ q. not (has_bit ws q)) count p))
      by_end (inr (past, _)) = (λ j. past j && not (contains_any (of_words n ws) p (p + count)))
          ∙ sym (λ j. past j && all_pass (λ q. not (has_bit ws q)) count p)

-- so the first one is the same
pub same_gap : (n : ℕ) (ws : List ℕ) (count from : ℕ)
    → first_room (has_bit ws) n count from ≡ first_gap (of_words n ws) count from
unfolding first_room first_gap
same_gap n ws count from =
    ap (λ m. slice_get (ascending (has_room_in (has_bit ws) n count) from (m + 1 - from)) 0)
    (sym (length-of_words n ws))
    ∙ ap (λ xs. slice_get xs 0) (ascending-same (has_room_in (has_bit ws) n count) (has_room (of_words n ws) count) from
    ((of_words n ws).length + 1 - from) (λ q _ _. sym (same_room n ws count q)))

-- an end at or below the length is the only one that tells
room_below : (n : ℕ) (ws : List ℕ) (count end q : ℕ) → end ≤ n
    → has_room_in (has_bit ws) end count q ≡ (nat_le (q + count) end && has_room_in (has_bit ws) n count q)
unfolding has_room_in
room_below n ws count end q within = by_end (leb_tells (q + count) end)
  where
    free : Bool
    free = all_pass (λ x. not (has_bit ws x)) count q

    by_end : ((leb (q + count) end ≡ true) × (q + count ≤ end)) ⊎ ((leb (q + count) end ≡ false) × (end < q + count))
        → (nat_le (q + count) end && free) ≡ (nat_le (q + count) end && (nat_le (q + count) n && free))
    by_end (inl (_, fits)) =
        let below : nat_le (q + count) n ≡ true = le-leb (q + count) n (omega (arith, fits, within)) in
        λ j. nat_le (q + count) end && (sym below j && free)
    by_end (inr (past, _)) = (λ j. past j && free) ∙ sym (λ j. past j && (nat_le (q + count) n && free))

-- so the first one at a multiple is the same
pub same_aligned_gap : (n : ℕ) (ws : List ℕ) (count align start end : ℕ) → end ≤ n
    → first_aligned_room (has_bit ws) end count align start ≡ first_aligned_gap count align (of_words n ws) start end
unfolding first_aligned_room first_aligned_gap
same_aligned_gap n ws count align start end within =
    ap (λ xs. slice_get xs 0) (ascending-same (λ q. is_multiple align q && has_room_in (has_bit ws) end count q)
    (λ q. is_multiple align q && (nat_le (q + count) end && has_room (of_words n ws) count q)) start
    (end + 1 - start) (λ q _ _.
    ap (λ r. is_multiple align q && r)
    (room_below n ws count end q within ∙ ap (λ r. nat_le (q + count) end && r) (sym (same_room n ws count q)))))

-- of the places that end before an end, those that end before the length are those before the smaller of both
room_cut : (n : ℕ) (ws : List ℕ) (count end q : ℕ)
    → (nat_le (q + count) end && has_room (of_words n ws) count q) ≡ has_room_in (has_bit ws) (min end n) count q
unfolding has_room_in
room_cut n ws count end q = ap (λ r. nat_le (q + count) end && r) (same_room n ws count q) ∙ grind (arith, nat_tests)

no_room_past : (n : ℕ) (ws : List ℕ) (count end q : ℕ) → min end n + 1 ≤ q
    → has_room_in (has_bit ws) (min end n) count q ≡ false
unfolding has_room_in
no_room_past n ws count end q past = grind (arith, nat_tests)

-- so the last one is the same
pub same_last_gap : (n : ℕ) (ws : List ℕ) (count end : ℕ)
    → last_room (has_bit ws) (min end n) count ≡ last_gap (of_words n ws) count end
unfolding last_room last_gap
same_last_gap n ws count end = ap (last_or None) (sym (ap (ascending test 0) long
    ∙ ascending-cut test (has_room_in (has_bit ws) (min end n) count) 0 (min end n + 1) (n - min end n)
    (λ q _ _. room_cut n ws count end q)
    (λ q past _. room_cut n ws count end q ∙ no_room_past n ws count end q (omega (arith, past)))))
  where
    test : ℕ → Bool
    test q = nat_le (q + count) end && has_room (of_words n ws) count q

    long : (of_words n ws).length + 1 ≡ min end n + 1 + (n - min end n)
    long = omega (arith, length-of_words n ws)

-- and so are the runs that begin on the way
pub same_last_steps : (n : ℕ) (ws : List ℕ) (end : ℕ) → IsClean n ws
    → last_steps (has_bit ws) end ≡ last_steps (contains (of_words n ws)) end
same_last_steps n ws end clean =
    ap (λ k. 2 * (k + 1) + div_ceil end 64)
    (count-same (begins (has_bit ws)) (begins (contains (of_words n ws))) end (λ p _ j.
    contains_word n ws p clean j && not (nat_lt 0 p && contains_word n ws (p - 1) clean j)))

pub equal_le : {a b : ℕ} → a ≡ b → b ≤ a
equal_le e = omega (arith, e)
