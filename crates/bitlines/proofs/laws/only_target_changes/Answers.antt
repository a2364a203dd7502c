use Rattle.bitlines.proofs.StepsOfTargets.{of_row}
use Rattle.bitlines.proofs.laws.only_target_changes.Goals as goal

pub returns : goal.returns
returns c m k r old new s = (of_row m k r old new s).0
