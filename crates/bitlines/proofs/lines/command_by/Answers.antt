use Rattle.std.proofs.Common.{rules}
use Rattle.bitlines.specs.Lines.{command_by}
use Rattle.bitlines.proofs.lines.command_by.Goals as goal

pub returns-in_ok-a-in-TwoSets : goal.returns-in_ok-a-in-TwoSets
unfolding command_by
returns-in_ok-a-in-TwoSets c = search rules steps 1000000
