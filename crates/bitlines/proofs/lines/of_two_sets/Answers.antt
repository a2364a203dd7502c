use Rattle.std.proofs.Common.{rules}
use Rattle.bitlines.proofs.lines.of_two_sets.Goals as goal

pub returns-in-Clone : goal.returns-in-Clone
returns-in-Clone c = search rules steps 300000
