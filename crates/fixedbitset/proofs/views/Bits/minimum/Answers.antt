use Rattle.std.proofs.Common.{rules}
use Rattle.fixedbitset.proofs.Positions.{row_minimum}
use Rattle.fixedbitset.proofs.views.Bits.minimum.Goals as goal

pub returns-clause-cost : goal.returns-clause-cost
returns-clause-cost c = search rules steps 100000

pub returns-clause-value : goal.returns-clause-value
returns-clause-value c = search (rules, row_minimum) steps 100000
