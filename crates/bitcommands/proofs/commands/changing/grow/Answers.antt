use Rattle.std.proofs.Common.{arith}
use Rattle.std.proofs.lemmas.Grind.{common_steps}
use Rattle.bitcommands.proofs.commands.changing.grow.Goals as goal

pub returns-in_err-grow : goal.returns-in_err-grow
returns-in_err-grow c = grind (arith, common_steps)
