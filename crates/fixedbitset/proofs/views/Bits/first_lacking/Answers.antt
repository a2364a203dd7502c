use Rattle.std.proofs.Common.{rules}
use Rattle.fixedbitset.proofs.Lacking.{first_left}
use Rattle.fixedbitset.proofs.views.Bits.first_lacking.Goals as goal

pub returns-clause-first : goal.returns-clause-first
returns-clause-first c = search (rules, first_left) steps 100000

pub returns-clause-bound : goal.returns-clause-bound
returns-clause-bound c = search rules steps 300000
