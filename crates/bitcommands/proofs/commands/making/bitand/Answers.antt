use Rattle.std.proofs.Common.{arith}
use Rattle.std.proofs.lemmas.Grind.{common_steps}
use Rattle.bitcommands.proofs.commands.making.bitand.Goals as goal

pub returns : goal.returns
returns c = λ m. grind (arith, common_steps)
