-- Items that a set took in from a list.
use Rattle.std.proofs.Common.{◌≡◌, ℕ, ◌+◌, ◌-◌, ◌^◌, ◌<◌, IsTrue, true, false, cond, ◌||◌, List}
use Rattle.std.proofs.Common.{[], ◌∷◌, ◌++◌, length, get_or, drop, Option, Some, None, Result}
use Rattle.std.proofs.Common.{Ok, Err, MatchResult, inr, refl, sym, ap, arith, append-nil}
use Rattle.std.specs.Prelude.{slice_set}
use Rattle.std.specs.List.{All}
use Rattle.std.specs.Iterator.{Drains, YieldsThen}
use Rattle.std.proofs.lemmas.Bool.Decides.{nat_tests}
use Rattle.std.proofs.lemmas.Grind.{common_steps}
use Rattle.std.proofs.lemmas.Iterator.{YieldsList}
use Rattle.std.proofs.lemmas.Iterator.Consumers.{YieldsList-so_far, YieldsList-turn, YieldsList-end}
use Rattle.std.proofs.lemmas.List.{drop_more, map-id, take-append-drop}
use Rattle.std.proofs.lemmas.List.Elements.{All-tail}
use Rattle.std.proofs.lemmas.List.Sums.{take_while-cons}
use Rattle.fixedbitset.specs.Bits.{Bits, insert, grow, add, add_all}
use Rattle.fixedbitset.specs.AddFacts.{insert-grow}
use Rattle.fixedbitset.specs.Extended.{Extends}
use Rattle.fixedbitset.specs.declared.extend.ExtendFault.{ExtendFault}
use Rattle.fixedbitset.specs.declared.extend.ExtendFault.TheVariants as fault
use Rattle.bitcommands.specs.Guards.{is_greatest, before_greatest, has_greatest, no_items, needs_more_words}
use Rattle.bitcommands.specs.Actions.{extend}
use Rattle.bitcommands.specs.Answers as answer
use Rattle.bitcommands.specs.Outcomes.{fault_refusal}
use Rattle.bitcommands.specs.Sets.{Sets, at}
use Rattle.bitcommands.specs.Steps.{Step}

-- a position that a set grows for is set once it has grown
pub grown : (v : Bits) (bit : ℕ) → add v bit ≡ insert (grow v (bit + 1)) bit
grown v bit = sym (insert-grow v bit)

no_item : (before_greatest [] ≡ []) × (has_greatest [] ≡ false)
unfolding before_greatest has_greatest
no_item = (refl, refl)

first_item : (x : ℕ) (xs : List ℕ) → (before_greatest (x ∷ xs) ≡ cond (is_greatest x) [] (x ∷ before_greatest xs))
    × (has_greatest (x ∷ xs) ≡ (is_greatest x || has_greatest xs))
unfolding before_greatest has_greatest
first_item x xs = (grind (arith, take_while-cons), refl)

-- what stands behind items below the greatest number decides
behind_items : (rest xs : List ℕ) → All (λ x. x < 2 ^ 64 - 1) xs
    → (before_greatest (xs ++ rest) ≡ xs ++ before_greatest rest) × (has_greatest (xs ++ rest) ≡ has_greatest rest)
behind_items rest [] below = (refl, refl)
behind_items rest (x ∷ xs) below =
    grind (
      arith,
      nat_tests,
      first_item x (xs ++ rest),
      below 0 0,
      behind_items rest xs (All-tail (λ x. x < 2 ^ 64 - 1) x xs below),
    )

-- what is made of a set that took in all items
abbrev pub Took : Bits → Bits → List ℕ → Type 0
Took v w items = (has_greatest items ≡ false) × (before_greatest items ≡ items) × (w ≡ add_all v items)

-- what is left of one that a fault stopped
abbrev pub Stopped : Bits → Bits → List ℕ → ExtendFault → Type 0
Stopped v w items fault.Position = (has_greatest items ≡ true) × (w ≡ add_all v (before_greatest items))
Stopped v w items fault.Memory =
    (added : List ℕ) × (item : ℕ) × (others : List ℕ) × (before_greatest items ≡ added ++ item ∷ others)
    × IsTrue (needs_more_words (add_all v added) (item + 1)) × (w ≡ add_all v added)

module _ {S : Type 0} {steps : S → Option ℕ → S → Type 0} {s : S} {items : List ℕ}
    (road : YieldsList steps (λ x. x) s items) where
  drained : (taken : List ℕ) → Drains steps s taken → taken ≡ items
  drained taken d = rw map-id at (YieldsList-end road taken d.1.0 d.1.1 None d.0 refl d.1.2).0

  stopped : (taken : List ℕ) (item : ℕ) (rest : S) → YieldsThen steps s taken (Some item) rest
      → (others : List ℕ) × (items ≡ taken ++ item ∷ others)
  stopped taken item rest h =
      let turn = YieldsList-turn road taken h.0 h.1 (Some item) rest item refl h.2 in
      let so_far = rw map-id at (YieldsList-so_far road taken h.0 h.1) in (
        drop (length taken + 1) items,
        grind (arith, so_far, turn, take-append-drop (length taken) items, drop_more items (length taken) item),
      )

  pub took : {R : Type 0} (v w : Bits) (r : Result R ExtendFault) → Extends steps s v w r
      → MatchResult r (λ _. Took v w items) (Stopped v w items)
  took v w (Ok x) h =
      grind (arith, no_item, drained h.taken h.next, behind_items [] h.taken h.positions, append-nil h.taken, h.added)
  took v w (Err fault.Position) h =
      let cut = stopped h.taken h.next.0 h.next.1 h.next.2 in
      grind (
        arith,
        nat_tests,
        first_item h.next.0 cut.0,
        cut.1,
        behind_items (h.next.0 ∷ cut.0) h.taken h.positions,
        append-nil h.taken,
        h.added,
      )
  took v w (Err fault.Memory) h =
      let cut = stopped h.taken h.next.0 h.next.1 h.next.2 in (
        h.taken,
        h.next.0,
        before_greatest cut.0,
        grind (arith, nat_tests, first_item h.next.0 cut.0, cut.1, behind_items (h.next.0 ∷ cut.0) h.taken h.positions),
        rw (← h.added) (grind (arith, nat_tests)),
        h.added,
      )

-- a fault of `extend` is a step, with what is left of the set in its place
pub fault_step : (m k : ℕ) (old : Sets) (v w : Bits) (items : List ℕ) (f : ExtendFault) → no_items m old k items ≡ None
    → v ≡ get_or old k v → Stopped (get_or old k v) w items f
    → Step m old (extend k items) (answer.refused (fault_refusal f)) (slice_set old k w)
fault_step m k old v w items fault.Position none here left = grind (arith, common_steps)
fault_step m k old v w items fault.Memory none here left =
    let there : at old k ≡ get_or old k v = grind (arith, common_steps) in
    rw (none, there) (inr (refl, (left.0, left.1, left.2, left.3, left.4, ap (slice_set old k) left.5)))
