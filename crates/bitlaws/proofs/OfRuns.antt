-- The stretches of the numbers that pass, one after the other.
use Rattle.std.proofs.Common.{inl, inr, ◌⊎◌, ◌≡◌, ℕ, zero, suc, ◌+◌, ◌-◌, ◌<◌, ◌≤◌, Bool, true}
use Rattle.std.proofs.Common.{false, not, ◌&&◌, nat_le, ◌∷◌, map, refl, sym, ap, ◌∙◌, subst, arith, ⊎_elim}
use Rattle.std.proofs.lemmas.Bool.{not-true, not-false, cases_eq, true≢false}
use Rattle.std.proofs.lemmas.Bool.Decides.{nat_tests}
use Rattle.bitwords.specs.AscendingFacts.{ascending-none, first-from}
use Rattle.bitwords.specs.Gaps.{is_multiple}
use Rattle.bitwords.specs.Neighbours.{IsNext, NonePasses}
use Rattle.bitwords.specs.NextFacts.{least}
use Rattle.bitwords.specs.Runs.{begins, end_from, stretches}
use Rattle.bitwords.specs.RunsFacts.{around, none_begin, ends_at, ends_last}
use Rattle.bitlaws.specs.RunLaws.{AreStretches, RunsAreTheSet, ZeroRunsAreTheOthers, RoomTells, GapIsLeast}
use Rattle.bitlaws.specs.RunLaws.{AlignedGapIsLeast}
use Rattle.fixedbitset.specs.Bits.{contains, complement}
use Rattle.fixedbitset.specs.BitsFacts.{length-complement}
use Rattle.fixedbitset.specs.RangesFacts.{contains_any-tells}
use Rattle.fixedbitset.specs.Ranges.{contains_any}
use Rattle.fixedbitset.specs.Runs.{runs, zero_runs, has_room, first_gap, first_aligned_gap}

module _ (test : ℕ → Bool) (n : ℕ) where
  -- what begins at `low` is not cut by it
  abbrev IsEdge : ℕ → Type 0
  IsEdge low = low < n → test low ≡ true → begins test low ≡ true

  -- one stretch, and those behind it
  module _ (low start end : ℕ) (edge : IsEdge low) (next : IsNext test low n start) (some : start < end)
      (within : end ≤ n) (all : (p : ℕ) → start ≤ p → p < end → test p ≡ true)
      (stops : end < n → test end ≡ false) where
    first : begins test start ≡ true
    first = grind (arith, nat_tests, next.none (start - 1))

    ending : end_from test n start ≡ end
    ending =
        elim (cases_eq end n) [
          | inl last ↦ ends_last test n start (omega arith) (λ p above below. all p above (omega arith)) ∙ sym last
          | inr before ↦ ends_at test n start end some (omega arith) all (stops (omega arith))
        ]

    listed : stretches test n low n ≡ (start, end) ∷ stretches test n end n
    listed =
        rw (
          around test n low start end n next.after some within first all,
          none_begin test n low start next.none,
          ending,
        ) refl

    one_stretch : AreStretches test end n (stretches test n end n) → AreStretches test low n (stretches test n low n)
    unfolding AreStretches
    one_stretch others =
        subst (AreStretches test low n) (sym listed) (next.after, next.none, some, all, within, stops, others)

  no_stretch : (low : ℕ) → NonePasses test low n → AreStretches test low n (stretches test n low n)
  unfolding AreStretches
  no_stretch low none =
      subst (AreStretches test low n) (sym (ap (map (λ p. (p, end_from test n p))) (none_begin test n low n none))) none

  all_stretches : (fuel low : ℕ) → n ≤ low + fuel → low ≤ n → IsEdge low
      → AreStretches test low n (stretches test n low n)
  all_stretches zero low short within edge =
      no_stretch low (λ i above below. absurd (omega (arith, short, above, below)))
  all_stretches (suc fuel) low short within edge =
      from_least (all_stretches fuel) (least test (n - low) low n (omega arith))
    where
      from_end : ((next : ℕ) → n ≤ next + fuel → next ≤ n → IsEdge next
          → AreStretches test next n (stretches test n next n)) → (start : ℕ) → IsNext test low n start
          → NonePasses (λ q. not (test q)) start n ⊎ ((q : ℕ) × IsNext (λ q. not (test q)) start n q)
          → AreStretches test low n (stretches test n low n)
      from_end more start next (inl none) =
          one_stretch low start n edge next next.below (omega arith)
          (λ p above below. not-false (test p) (none p above below)) (λ less. absurd (omega (arith, less)))
          (more n (omega arith) (omega arith) (λ less. absurd (omega (arith, less))))
      from_end more start next (inr found) =
          let end : ℕ = found.0 in
          let fails : test end ≡ false = not-true (test end) found.1.passes in
          let some : start < end = grind (arith, next.passes, found.1.after) in
          one_stretch low start end edge next some (omega (arith, found.1.below))
          (λ p above below. not-false (test p) (found.1.none p above below)) (λ less. fails)
          (more end (omega (arith, short, some, next.after)) (omega (arith, found.1.below))
          (λ less passes. absurd (true≢false (sym passes ∙ fails))))

      from_least : ((next : ℕ) → n ≤ next + fuel → next ≤ n → IsEdge next
          → AreStretches test next n (stretches test n next n)) → NonePasses test low n
          ⊎ ((p : ℕ) × IsNext test low n p) → AreStretches test low n (stretches test n low n)
      from_least more (inl none) = no_stretch low none
      from_least more (inr found) =
          from_end more found.0 found.1
          (least (λ q. not (test q)) (n - found.0) found.0 n (omega (arith, found.1.below)))

  pub stretches_of : AreStretches test 0 n (stretches test n 0 n)
  stretches_of = all_stretches n 0 (omega arith) (omega arith) (λ _ one. grind arith)

pub runs_are_the_set : RunsAreTheSet
unfolding runs
runs_are_the_set v = stretches_of (contains v) v.length

pub zero_runs_are_the_others : ZeroRunsAreTheOthers
unfolding runs zero_runs
zero_runs_are_the_others v =
    subst (λ n. AreStretches (contains (complement v)) 0 n (zero_runs v)) (length-complement v)
    (stretches_of (contains (complement v)) (complement v).length)

-- ---- gaps

pub room_tells : RoomTells
unfolding has_room
room_tells v count p = (
  λ room. (
    grind (arith, nat_tests),
    λ q above below one. let some = (contains_any-tells v p (p + count)).1 (q, above, below, one) in grind arith,
  ),
  λ free.
      let none : ¬ (contains_any v p (p + count) ≡ true) = λ some. let one =
      (contains_any-tells v p (p + count)).0 some in free.1 one.0 one.1 one.2 one.3 in
      grind (arith, nat_tests),
)

pub gap_is_least : GapIsLeast
unfolding first_gap
gap_is_least v count from =
    let room = has_room v count in
    let steps : ℕ = v.length + 1 - from in
    ⊎_elim
    (λ (none : NonePasses room from (from + steps)).
    rw (ascending-none room from steps none) (λ p above holds. grind (arith, none p, past p holds)))
    (λ (found : (p : ℕ) × IsNext room from (from + steps) p).
    let next = found.1 in
    rw (first-from room from steps found.0 next.after next.below next.passes next.none) (
      next.after,
      next.passes,
      λ q above holds.
          grind (arith, next.none q),
    ))
    (least room steps from (from + steps) refl)
  where
    past : (q : ℕ) → has_room v count q ≡ true → q < v.length + 1
    past q holds = omega (arith, ((room_tells v count q).0 holds).0)

pub aligned_gap_is_least : AlignedGapIsLeast
unfolding first_aligned_gap
aligned_gap_is_least v count align start end =
    let room : ℕ → Bool = λ p. is_multiple align p && (nat_le (p + count) end && has_room v count p) in
    let steps : ℕ = end + 1 - start in
    ⊎_elim
    (λ (none : NonePasses room start (start + steps)).
    rw (ascending-none room start steps none) (λ p above multiple within holds.
    grind (arith, nat_tests, none p)))
    (λ (found : (p : ℕ) × IsNext room start (start + steps) p).
    let next = found.1 in
    let passes : room found.0 ≡ true = next.passes in
    rw (first-from room start steps found.0 next.after next.below next.passes next.none) (
      next.after,
      grind (arith, nat_tests, passes),
      grind (arith, nat_tests, passes),
      grind (arith, nat_tests, passes),
      λ q above multiple within holds.
          grind (arith, nat_tests, next.none q),
    ))
    (least room steps start (start + steps) refl)
