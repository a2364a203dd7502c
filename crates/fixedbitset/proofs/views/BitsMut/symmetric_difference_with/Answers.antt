use Rattle.std.proofs.Common.{rules}
use Rattle.fixedbitset.proofs.Words.{of_length}
use Rattle.fixedbitset.proofs.JoinedValues.{symmetric_difference_longer}
use Rattle.fixedbitset.proofs.views.BitsMut.symmetric_difference_with.Goals as goal

pub returns-clause-value : goal.returns-clause-value
returns-clause-value c = search (rules, of_length, symmetric_difference_longer) steps 300000
