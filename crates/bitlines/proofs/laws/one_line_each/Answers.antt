use Rattle.bitlines.proofs.OneLines.{one_line_each}
use Rattle.bitlines.proofs.laws.one_line_each.Goals as goal

pub returns : goal.returns
returns c = one_line_each
