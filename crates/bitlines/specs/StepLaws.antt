-- What a command leaves as it was.
use Rattle.std.specs.Prelude.{◌≡◌, ◌≢◌, ℕ, List, ◌∷◌, length}
use Rattle.bitcommands.specs.declared.commands.refusals.Refusal.{Refusal}
use Rattle.bitcommands.specs.Actions as action
use Rattle.bitcommands.specs.Actions.{Action}
use Rattle.bitcommands.specs.Answers as answer
use Rattle.bitcommands.specs.Answers.{Answer}
use Rattle.bitcommands.specs.Sets.{Sets, at}
use Rattle.bitcommands.specs.Steps.{Step}
use Rattle.bitcommands.specs.Arguments.{Argument, number}
use Rattle.bitlines.specs.Written.{spelling}

-- the number that stands first
abbrev pub first_number : List Argument → ℕ
first_number (number k ∷ xs) = k
first_number xs = 0

-- the set that a command makes, changes or asks first: its first number
abbrev pub target : Action → ℕ
target c = first_number (spelling c).1

-- there are as many sets, and each but the one with this number is as it was
abbrev pub LeavesOthers : ℕ → Sets → Sets → Type 0
LeavesOthers k old new = (length new ≡ length old) × ((j : ℕ) → j ≢ k → at new j ≡ at old j)

-- a command leaves each set but its target as it was
abbrev pub OnlyTargetChanges : Type 0
OnlyTargetChanges = (m : ℕ) (c : Action) (r : Answer) (old new : Sets) → Step m old c r new
    → LeavesOthers (target c) old new

-- a refused command leaves every set as it was, unless it is `extend`, which keeps the items before
abbrev pub RefusedChangesNothing : Type 0
RefusedChangesNothing = (m : ℕ) (c : Action) (f : Refusal) (old new : Sets)
    → Step m old c (answer.refused f) new
    → ((k : ℕ) (items : List ℕ) → c ≢ action.extend k items) → new ≡ old
