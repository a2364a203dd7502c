-- What is read of lines that are written.
use Rattle.std.specs.Prelude.{◌≡◌, Some}
use Rattle.bitcommands.specs.Actions.{Action}
use Rattle.bitlines.specs.Lines.{command_of}
use Rattle.bitlines.specs.Written.{line_of, AllFit, spelling}

-- the line of a command whose arguments fit stands for that command
abbrev pub LinesReadBack : Type 0
LinesReadBack = (c : Action) → AllFit (spelling c).1 → command_of (line_of c) ≡ Some c
