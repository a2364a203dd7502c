use Rattle.std.proofs.Common.{rules}
use Rattle.fixedbitset.proofs.Positions.{row_maximum}
use Rattle.fixedbitset.proofs.views.Bits.maximum.Goals as goal

pub returns-clause-value : goal.returns-clause-value
returns-clause-value c = search (rules, row_maximum) steps 100000

pub returns-clause-cost : goal.returns-clause-cost
returns-clause-cost c = search rules steps 300000
