-- Which slots are taken and which are free, before and after some are taken or given back.
use Rattle.std.proofs.Common.{◌≡◌, ℕ, ◌+◌, ◌<◌, ◌≤◌, min, inl, inr, Option, Some}
use Rattle.std.proofs.Common.{None, refl, sym, arith, IsTrue, ⊎_elim}
use Rattle.std.specs.Prelude.{MatchOption, unwrap_or}
use Rattle.std.proofs.lemmas.Bool.{cases_lt}
use Rattle.std.proofs.lemmas.Bool.Decides.{nat_tests}
use Rattle.bitwords.specs.Gaps.{is_multiple}
use Rattle.fixedbitset.specs.Bits.{Bits, insert, remove}
use Rattle.fixedbitset.specs.BitsFacts.{contains_below, length-insert, length-remove}
use Rattle.fixedbitset.specs.MemberFacts.{in_insert, in_remove, in_insert_range, in_remove_range, is_full-tells}
use Rattle.fixedbitset.specs.NeighbourFacts.{next_zero_least, next_zero_none}
use Rattle.fixedbitset.specs.Neighbours.{next_zero}
use Rattle.fixedbitset.specs.Ranges.{insert_range, remove_range, is_valid}
use Rattle.fixedbitset.specs.RangesFacts.{length-insert_range, length-remove_range}
use Rattle.fixedbitset.specs.SizeFacts.{count_zeroes-full}
use Rattle.fixedbitset.specs.Runs.{first_gap, first_aligned_gap}
use Rattle.bitlaws.proofs.OfRuns.{room_tells, gap_is_least, aligned_gap_is_least}
use Rattle.bitslots.specs.Low.{AreTakenBelow}
use Rattle.bitslots.specs.Slots.{IsTaken, IsFree, IsLeastFree, AreAllTaken, IsFreeStretch}
use Rattle.bitslots.specs.Slots.{IsTakenStretch, IsLeastStretch, HasNoStretch, IsLeastAligned, free_count}

-- ---- the search begins where all slots before are taken

module _ (taken : Bits) (low : ℕ) (below : AreTakenBelow taken low) where
  pub all_taken : next_zero taken low ≡ None → AreAllTaken taken
  all_taken none slot within =
      ⊎_elim
      (λ early. below slot early within)
      (λ late. next_zero_none taken low none slot late within)
      (cases_lt slot low)

  module _ (slot : ℕ) (found : next_zero taken low ≡ Some slot) where
    -- the slots before the one that is found are taken
    before : (other : ℕ) → other < slot → other < taken.length → IsTaken taken other
    before other less within =
        ⊎_elim
        (λ early. below other early within)
        (λ late. let clear = (next_zero_least taken low slot found).3 other late within in grind (arith, clear))
        (cases_lt other low)

    pub least_free : IsLeastFree taken slot
    least_free =
        let least = next_zero_least taken low slot found in (
          (least.2, λ is. absurd (grind (arith, least.0))),
          λ other free.
              ⊎_elim (λ less. absurd (free.1 (before other less free.0))) (λ not_less. not_less) (cases_lt other slot),
        )

    -- it is taken then, and the search begins behind it
    pub below_taken : AreTakenBelow (insert taken slot) (slot + 1)
    below_taken other less within =
        let least = next_zero_least taken low slot found in
        let own = length-insert taken slot in
        (in_insert taken slot other least.2).1
        (⊎_elim
        (λ is_less. inr (before other is_less (omega arith)))
        (λ not_less. inl (omega arith))
        (cases_lt other slot))

  pub below_stretch : (start end : ℕ) → end ≤ taken.length → AreTakenBelow (insert_range taken start end) low
  below_stretch start end fits slot less within =
      let own = length-insert_range taken start end in
      (in_insert_range taken start end slot fits).1 (inr (below slot less (omega arith)))

  -- a slot that is given back is not before the place where the search begins
  pub below_back : (slot : ℕ) → AreTakenBelow (remove taken slot) (min low slot)
  below_back slot other less within =
      let own = length-remove taken slot in
      (in_remove taken slot other).1 (λ same. absurd (omega (arith, same)), below other (omega arith) (omega arith))

  pub below_stretch_back : (start end : ℕ) → AreTakenBelow (remove_range taken start end) (min low start)
  below_stretch_back start end slot less within =
      let own = length-remove_range taken start end in
      (in_remove_range taken start end slot).1
      (below slot (omega arith) (omega arith), λ inside. absurd (omega (arith, inside.0)))

pub none_free : (v : Bits) → AreAllTaken v → free_count v ≡ 0
none_free v all = count_zeroes-full v ((is_full-tells v).1 all)

-- ---- a stretch is taken

pub valid : (v : Bits) (start count : ℕ) → start + count ≤ v.length → IsTrue (is_valid v start (start + count))
valid v start count fits = grind (arith, nat_tests, fits)

module _ (v : Bits) (count from : ℕ) where
  pub least_stretch : (start : ℕ) → Some start ≡ first_gap v count from → IsLeastStretch v count from start
  least_stretch start is =
      let found = rw (sym is) at (gap_is_least v count from) in (
        found.0,
        (room_tells v count start).0 found.1,
        λ other after free. found.2 other after ((room_tells v count other).1 free),
      )

  pub no_stretch : None ≡ first_gap v count from → HasNoStretch v count from
  no_stretch is = let none = rw (sym is) at (gap_is_least v count from) in
      λ start after free. none start after ((room_tells v count start).1 free)

module _ (v : Bits) (count align : ℕ) where
  pub least_aligned : (start : ℕ) → Some start ≡ first_aligned_gap count align v 0 v.length
      → IsLeastAligned v count align start
  least_aligned start is =
      let found = rw (sym is) at (aligned_gap_is_least v count align 0 v.length) in (
        found.1,
        (room_tells v count start).0 found.3,
        λ other multiple free.
            found.4 other (omega arith) multiple free.0 ((room_tells v count other).1 free),
      )

  pub no_aligned : None ≡ first_aligned_gap count align v 0 v.length
      → (start : ℕ) → IsTrue (is_multiple align start) → ¬ (IsFreeStretch v count start)
  no_aligned is = let none = rw (sym is) at (aligned_gap_is_least v count align 0 v.length) in
      λ start multiple free. none start (omega arith) multiple free.0 ((room_tells v count start).1 free)

-- each slot of it is taken then
pub stretch_taken : (v w : Bits) (count start : ℕ) → IsFreeStretch v count start
    → w ≡ insert_range v start (start + count) → IsTakenStretch w count start
stretch_taken v w count start free left =
    let fits : start + count ≤ v.length = free.0 in
    rw left (
      omega (arith, fits, length-insert_range v start (start + count)),
      λ slot from_there below. (in_insert_range v start (start + count) slot fits).1 (inl (from_there, below)),
    )

-- ---- a slot is given back

free_again : (v : Bits) (slot : ℕ) → IsTaken v slot → IsFree (remove v slot) slot
free_again v slot taken = (
  let h = contains_below v slot taken in let e = length-remove v slot in omega arith,
  λ still. ((in_remove v slot slot).0 still).0 refl,
)

pub lowered : (v : Bits) (slot : ℕ) (taken : Option ℕ) → IsTaken v slot
    → MatchOption taken (AreAllTaken (remove v slot)) (λ s. IsLeastFree (remove v slot) s) → unwrap_or taken slot ≤ slot
lowered v slot None was all = omega arith
lowered v slot (Some s) was least = least.1 slot (free_again v slot was)
