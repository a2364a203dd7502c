use Rattle.std.proofs.Common.{rules}
use Rattle.uses.proofs.text.program.line_at.Goals as goal

pub returns : goal.returns
returns c = search rules steps 300000
