use Rattle.std.proofs.Common.{rules}
use Rattle.fixedbitset.proofs.Words.{of_length}
use Rattle.fixedbitset.proofs.JoinedValues.{difference_joined}
use Rattle.fixedbitset.proofs.views.Bits.difference_to.Goals as goal

pub returns-clause-value : goal.returns-clause-value
returns-clause-value c = search (rules, of_length, difference_joined) steps 800000
