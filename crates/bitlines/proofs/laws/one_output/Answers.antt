use Rattle.bitlines.proofs.OneOutput.{one_output}
use Rattle.bitlines.proofs.laws.one_output.Goals as goal

pub returns : goal.returns
returns c = one_output
