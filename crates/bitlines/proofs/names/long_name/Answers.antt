use Rattle.std.proofs.Common.{rules}
use Rattle.bitlines.proofs.names.long_name.Goals as goal

pub returns-then-is-2 : goal.returns-then-is-2
returns-then-is-2 c = search rules steps 100000
