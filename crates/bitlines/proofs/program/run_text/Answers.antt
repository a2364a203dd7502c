use Rattle.std.proofs.Common.{rules}
use Rattle.bitlines.proofs.program.run_text.Goals as goal

pub returns-clause-ok : goal.returns-clause-ok
returns-clause-ok g c = search rules steps 300000
