use Rattle.bitlines.proofs.ReadBack.{read_back}
use Rattle.bitlines.proofs.laws.lines_read_back.Goals as goal

pub returns : goal.returns
returns c = read_back
