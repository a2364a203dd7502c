use Rattle.std.proofs.Common.{rules}
use Rattle.bitlines.proofs.names.shortest_name.Goals as goal

pub returns-then-is-6 : goal.returns-then-is-6
returns-then-is-6 c = search rules steps 100000
