use Rattle.std.proofs.Common.{refl}
use Rattle.bitcommands.specs.Answers.{refused}
use Rattle.bitlines.proofs.StepsOfTargets.{of_row}
use Rattle.bitlines.proofs.laws.refused_changes_nothing.Goals as goal

pub returns : goal.returns
returns c m k f old new s other = (of_row m k (refused f) old new s).1 f refl other
