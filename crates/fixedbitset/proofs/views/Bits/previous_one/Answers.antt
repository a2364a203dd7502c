use Rattle.std.proofs.Common.{rules}
use Rattle.fixedbitset.proofs.NextPositions.{previous_one_of}
use Rattle.fixedbitset.proofs.views.Bits.previous_one.Goals as goal

pub returns-clause-empty : goal.returns-clause-empty
returns-clause-empty c = search rules steps 300000

pub returns-clause-previous : goal.returns-clause-previous
returns-clause-previous c = search (rules, previous_one_of) steps 300000
