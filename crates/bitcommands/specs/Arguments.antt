-- The arguments of commands, as lines have them.
use Rattle.std.specs.Prelude.{ℕ, Bool, List}
use Rattle.serde_json.specs.Data.{Data}
use Rattle.bitcommands.specs.declared.commands.arguments.End.{End}
use Rattle.bitcommands.specs.Actions.{Range}

-- an argument of a command
pub data Argument : Type 0 where
  number : ℕ → Argument
  flag : Bool → Argument
  range : Range → Argument
  ends : List End → Argument
  json : Data → Argument
