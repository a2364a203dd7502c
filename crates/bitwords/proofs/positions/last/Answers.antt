use Rattle.bitwords.proofs.FirstAndLast.{no_last_position, last_position}
use Rattle.std.proofs.Common.{rules}
use Rattle.bitwords.proofs.positions.last.Goals as goal

pub returns-clause-cost : goal.returns-clause-cost
returns-clause-cost c = search (rules, last_position, no_last_position) steps 300000
