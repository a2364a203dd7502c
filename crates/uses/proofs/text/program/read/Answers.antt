use Rattle.std.proofs.Common.{rules}
use Rattle.uses.proofs.text.program.read.Goals as goal

pub returns-in-Ok : goal.returns-in-Ok
returns-in-Ok g c = search rules steps 300000
