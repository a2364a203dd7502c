-- A slot that is taken stays so until it is given back.
use Rattle.std.proofs.Common.{◌≡◌, ◌≢◌, ℕ, ◌+◌, ◌<◌, ◌≤◌, ◌⊎◌, inl, inr, refl, Some}
use Rattle.std.proofs.Common.{None, List, [], ◌∷◌, ◌++◌, sym, subst, ⊎_elim, arith}
use Rattle.std.specs.Prelude.{Contains}
use Rattle.std.proofs.lemmas.Bool.{cases_eq, cases_lt}
use Rattle.std.proofs.lemmas.List.Elements.{Contains-push, Contains-append_left, Contains-append_right}
use Rattle.fixedbitset.specs.Bits.{Bits, remove}
use Rattle.fixedbitset.specs.MemberFacts.{in_insert, in_remove, in_insert_range, in_remove_range}
use Rattle.fixedbitset.specs.Ranges.{insert_range, remove_range}
use Rattle.bitslots.specs.Slots.{IsTaken, IsFreeStretch}
use Rattle.bitslots.specs.Calls.{Call, Take, Give_back, Take_stretch, Take_aligned}
use Rattle.bitslots.specs.Calls.{Give_back_stretch, Happens, Runs, Takes, GivesBack}
use Rattle.bitslots.proofs.slots.never_twice.Goals as goal

-- some call among these gives the slot back
IsGivenBack : List Call → ℕ → Type 0
IsGivenBack calls slot = (call : Call) × Contains calls call × GivesBack call slot

first_of_calls : (call : Call) (calls : List Call) → Contains (call ∷ calls) call
first_of_calls call calls = Contains-append_left (call ∷ []) calls call (Contains-push [] call)

-- a slot that a call takes is taken then
taken_after : (call : Call) (old new : Bits) (slot : ℕ) → Takes call slot → Happens old call new → IsTaken new slot
taken_after (Take (Some taken)) old new slot here happens =
    subst (λ v. IsTaken v slot) (sym happens.1) ((in_insert old taken slot happens.0.0.0).1 (inl here))
taken_after (Take None) old new slot here happens = absurd here
taken_after (Take_stretch count from (Some start)) old new slot here happens =
    subst (λ v. IsTaken v slot) (sym happens.1)
    ((in_insert_range old start (start + count) slot happens.0.1.0).1 (inl here))
taken_after (Take_stretch count from None) old new slot here happens = absurd here
taken_after (Take_aligned count align (Some start)) old new slot here happens =
    subst (λ v. IsTaken v slot) (sym happens.1)
    ((in_insert_range old start (start + count) slot happens.0.1.0).1 (inl here))
taken_after (Take_aligned count align None) old new slot here happens = absurd here
taken_after (Give_back given) old new slot here happens = absurd here
taken_after (Give_back_stretch start count) old new slot here happens = absurd here

-- and it was free before
free_before : (call : Call) (old new : Bits) (slot : ℕ) → Takes call slot → Happens old call new → ¬ (IsTaken old slot)
free_before (Take (Some taken)) old new slot here happens = λ was. happens.0.0.1 (subst (IsTaken old) here was)
free_before (Take None) old new slot here happens = absurd here
free_before (Take_stretch count from (Some start)) old new slot here happens = happens.0.1.1 slot here.0 here.1
free_before (Take_stretch count from None) old new slot here happens = absurd here
free_before (Take_aligned count align (Some start)) old new slot here happens = happens.0.1.1 slot here.0 here.1
free_before (Take_aligned count align None) old new slot here happens = absurd here
free_before (Give_back given) old new slot here happens = absurd here
free_before (Give_back_stretch start count) old new slot here happens = absurd here

-- a call gives a slot back that was taken, or the slot stays taken
stays : (call : Call) (old new : Bits) (slot : ℕ) → IsTaken old slot → Happens old call new
    → GivesBack call slot ⊎ IsTaken new slot
stays (Take (Some taken)) old new slot was happens =
    inr (subst (λ v. IsTaken v slot) (sym happens.1) ((in_insert old taken slot happens.0.0.0).1 (inr was)))
stays (Take None) old new slot was happens = inr (subst (λ v. IsTaken v slot) (sym happens.1) was)
stays (Take_stretch count from (Some start)) old new slot was happens =
    inr (subst (λ v. IsTaken v slot) (sym happens.1)
    ((in_insert_range old start (start + count) slot happens.0.1.0).1 (inr was)))
stays (Take_stretch count from None) old new slot was happens = inr (subst (λ v. IsTaken v slot) (sym happens.1) was)
stays (Take_aligned count align (Some start)) old new slot was happens =
    inr (subst (λ v. IsTaken v slot) (sym happens.1)
    ((in_insert_range old start (start + count) slot happens.0.1.0).1 (inr was)))
stays (Take_aligned count align None) old new slot was happens = inr (subst (λ v. IsTaken v slot) (sym happens.1) was)
stays (Give_back given) old new slot was happens =
    ⊎_elim
    (λ (here : slot ≡ given). inl here)
    (λ (other : slot ≢ given).
    inr (subst (λ v. IsTaken v slot) (sym happens.1) ((in_remove old given slot).1 (other, was))))
    (cases_eq slot given)
stays (Give_back_stretch start count) old new slot was happens =
    ⊎_elim
    (λ (here : (start ≤ slot) × (slot < start + count)). inl here)
    (λ (other : ¬ ((start ≤ slot) × (slot < start + count))).
    inr (subst (λ v. IsTaken v slot) (sym happens.1) ((in_remove_range old start (start + count) slot).1 (was, other))))
    (lies start (start + count) slot)
  where
    lies : (low high p : ℕ) → ((low ≤ p) × (p < high)) ⊎ (¬ ((low ≤ p) × (p < high)))
    lies low high p = elim (cases_lt p low) [
      | inl before ↦ inr (λ both. let h : low ≤ p = both.0 in omega arith)
      | inr from ↦ elim (cases_lt p high) [
        | inl below ↦ inl (from, below)
        | inr past ↦ inr (λ both. let h : p < high = both.1 in omega arith)
      ]
    ]

-- from slots where it is taken
again : (between : List Call) (second : Call) (old new : Bits) (slot : ℕ) → IsTaken old slot → Takes second slot
    → Runs old (between ++ second ∷ []) new → IsGivenBack between slot
unfolding IsGivenBack
again [] second old new slot taken takes run = absurd (free_before second old run.0 slot takes run.1 taken)
again (call ∷ calls) second old new slot taken takes run =
    ⊎_elim
    (λ (given : GivesBack call slot). (call, first_of_calls call calls, given))
    (λ (still : IsTaken run.0 slot).
    let found = again calls second run.0 new slot still takes run.2 in
    (found.0, Contains-append_right (call ∷ []) calls found.0 found.1, found.2))
    (stays call old run.0 slot taken run.1)

given_back_between : (old new : Bits) (slot : ℕ) (first second : Call) (between : List Call) → Takes first slot
    → Takes second slot → Runs old (first ∷ (between ++ second ∷ [])) new
    → (call : Call) × Contains between call × GivesBack call slot
unfolding IsGivenBack
given_back_between old new slot first second between takes_first takes_second run =
    again between second run.0 new slot (taken_after first old run.0 slot takes_first run.1) takes_second run.2

pub returns : goal.returns
returns c = given_back_between
