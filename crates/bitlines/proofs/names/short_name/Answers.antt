use Rattle.std.proofs.Common.{rules}
use Rattle.bitlines.proofs.names.short_name.Goals as goal

pub returns-then-is-4 : goal.returns-then-is-4
returns-then-is-4 c = search rules steps 100000
