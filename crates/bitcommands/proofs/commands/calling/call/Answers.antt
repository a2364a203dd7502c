use Rattle.std.proofs.Common.{arith}
use Rattle.std.proofs.lemmas.Grind.{elements}
use Rattle.bitcommands.proofs.commands.calling.call.Goals as goal

pub returns-in-Back-clause-item : goal.returns-in-Back-clause-item
returns-in-Back-clause-item g c = grind (arith, elements) steps 100000
