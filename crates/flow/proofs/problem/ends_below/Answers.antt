use Rattle.std.proofs.Common.{rules}
use Rattle.flow.proofs.problem.ends_below.Goals as goal

pub returns : goal.returns
returns c = search rules steps 300000
