use Rattle.std.proofs.Common.{rules}
use Rattle.bitlines.proofs.lines.of_two_sets_and_ends.Goals as goal

pub returns-in-Union : goal.returns-in-Union
returns-in-Union c = search rules steps 300000
