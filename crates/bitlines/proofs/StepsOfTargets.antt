-- A command leaves each set but its target as it was, and a refused one every set.
use Rattle.std.proofs.Common.{◌≡◌, ◌≢◌, ℕ, Bool, true, false, List, Option, Some, None}
use Rattle.std.proofs.Common.{MatchOption, IsTrue, if◌then◌else◌, ◌⊎◌, inl, inr, refl, sym, ◌∙◌}
use Rattle.std.specs.Prelude.{slice_set}
use Rattle.std.proofs.lemmas.List.{length-set, get_or-set_other}
use Rattle.fixedbitset.specs.Bits as model
use Rattle.fixedbitset.specs.Bits.{Bits}
use Rattle.bitcommands.specs.declared.commands.refusals.Refusal.{Refusal}
use Rattle.bitcommands.specs.declared.commands.refusals.Refusal.TheVariants.{Memory, Greatest}
use Rattle.bitcommands.specs.Actions as action
use Rattle.bitcommands.specs.Actions.{Action}
use Rattle.bitcommands.specs.Answers as answer
use Rattle.bitcommands.specs.Answers.{Answer, refused}
use Rattle.bitcommands.specs.Guards.{has_greatest}
use Rattle.bitcommands.specs.Sets.{Sets}
use Rattle.bitcommands.specs.Steps.{Step}
use Rattle.bitlines.specs.StepLaws.{LeavesOthers, target}

-- ---- the forms of rows

unchanged : (k : ℕ) (old new : Sets) → new ≡ old → LeavesOthers k old new
unchanged k old new is = rw is (refl, λ j apart. refl)

changed : (k : ℕ) (old new : Sets) (v : Bits) → new ≡ slice_set old k v → LeavesOthers k old new
changed k old new v is = rw is (length-set old k v, λ j apart. get_or-set_other old k j v (model.empty 0) apart)

-- what a command on set k leaves
abbrev Keeps : ℕ → Action → Answer → Sets → Sets → Type 0
Keeps k c r old new = LeavesOthers k old new
    × ((f : Refusal) → r ≡ refused f → ((n : ℕ) (items : List ℕ) → c ≢ action.extend n items) → new ≡ old)

keeps_all : (k : ℕ) (c : Action) (r : Answer) (old new : Sets) → new ≡ old → Keeps k c r old new
keeps_all k c r old new is = (unchanged k old new is, λ f refusal other. is)

-- a row answers, or memory is refused, where `Kept` holds then
abbrev Stepped : Option Refusal → Answer → Answer → Sets → Sets → Sets → Type 0 → Type 0
Stepped test answer r left old new Kept =
    MatchOption test (((r ≡ answer) × (new ≡ left)) ⊎ ((r ≡ refused Memory) × Kept))
    (λ f. (r ≡ refused f) × (new ≡ old))

-- what is left is what the row leaves, or what was there
stepped : (k : ℕ) (c : Action) (r : Answer) (old new : Sets) (test : Option Refusal) (answer : Answer) (left : Sets)
    (may : Bool)
    → LeavesOthers k old left → ((f : Refusal) → answer ≡ refused f → left ≡ old)
    → Stepped test answer r left old new (IsTrue may × (new ≡ old)) → Keeps k c r old new
stepped k c r old new (Some f) answer left may others plain s = keeps_all k c r old new s.1
stepped k c r old new None answer left may others plain (inl s) = rw s.1 (others, λ f is other. plain f (sym s.0 ∙ is))
stepped k c r old new None answer left may others plain (inr s) = keeps_all k c r old new s.1.1

-- `from_iter` leaves the sets where it meets the greatest number
made_of : (k : ℕ) (c : Action) (met : Bool) (r : Answer) (old new : Sets) (test : Option Refusal) (v : Bits)
    (may : Bool)
    → Stepped test (if met then refused Greatest else answer.done) r (if met then old else slice_set old k v) old new
    (IsTrue may × (new ≡ old))
    → Keeps k c r old new
made_of k c true r old new test v may s = stepped k c r old new test _ old may (refl, λ j apart. refl) (λ f is. refl) s
made_of k c false r old new test v may s = stepped k c r old new test _ _ may (changed k old _ v refl) (λ f is. cc) s

-- `extend` keeps the items before the one that memory was refused for
taken_in : (k : ℕ) (r : Answer) (old new : Sets) (test : Option Refusal) (answer : Answer) (v : Bits) (Kept : Type 0)
    → (Kept → (w : Bits) × (new ≡ slice_set old k w)) → Stepped test answer r (slice_set old k v) old new Kept
    → LeavesOthers k old new
taken_in k r old new (Some f) answer v Kept left s = unchanged k old new s.1
taken_in k r old new None answer v Kept left (inl s) = changed k old new v s.1
taken_in k r old new None answer v Kept left (inr s) = let w = left s.1 in changed k old new w.0 w.1

-- ---- the rows

pub of_row : (m : ℕ) (c : Action) (r : Answer) (old new : Sets) → Step m old c r new → Keeps (target c) c r old new
of_row m (action.from_iter a b) r old new s = made_of a _ (has_greatest b) r old new _ _ _ s
of_row m (action.extend a b) r old new s =
    (taken_in a r old new _ _ _ _ (λ kept. (_, kept.5)) s, λ f is other. absurd (other a b refl))
of_row m c r old new s =
    stepped (target c) c r old new _ _ _ _ (search (length-set, get_or-set_other)) (λ f is. cc) s
