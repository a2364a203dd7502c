use Rattle.std.proofs.Common.{rules}
use Rattle.uses.proofs.reach.walk.are_nodes.Goals as goal

pub returns : goal.returns
returns c = search rules steps 300000
