use Rattle.std.proofs.Common.{rules}
use Rattle.uses.proofs.text.program.finish.Goals as goal

pub returns-else-is_ok-clause-written : goal.returns-else-is_ok-clause-written
returns-else-is_ok-clause-written g c = search rules steps 300000

pub returns-in-Err-clause-nothing : goal.returns-in-Err-clause-nothing
returns-in-Err-clause-nothing g c = search rules steps 300000
