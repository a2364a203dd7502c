-- No public clause cites this module.
-- What one line puts out.
use Rattle.std.specs.Prelude.{◌≡◌, ℕ, List, ◌∷◌, ◌++◌, Some}
use Rattle.bitcommands.specs.Actions.{Action}
use Rattle.bitcommands.specs.Sets.{Sets}
use Rattle.bitlines.specs.Lines.{command_of}
use Rattle.bitlines.specs.Output.{IsOutputFrom}

-- what one line puts out, before what any lines put out from the sets that it left, is what they all put out
abbrev pub AnswersLine : List ℕ → Sets → Sets → List ℕ → Type 0
AnswersLine line old new out = (lines : List (List ℕ)) (output : List ℕ)
    → IsOutputFrom new lines output → IsOutputFrom old (line ∷ lines) (out ++ output)

-- this is put out by each line that stands for the command
abbrev pub AnswersCommand : Action → Sets → Sets → List ℕ → Type 0
AnswersCommand command old new out = (line : List ℕ) → command_of line ≡ Some command → AnswersLine line old new out
