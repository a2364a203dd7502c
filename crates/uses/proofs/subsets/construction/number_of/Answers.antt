use Rattle.std.proofs.Common.{rules}
use Rattle.uses.proofs.subsets.construction.number_of.Goals as goal

pub returns-in-Some : goal.returns-in-Some
returns-in-Some c = search rules steps 300000
