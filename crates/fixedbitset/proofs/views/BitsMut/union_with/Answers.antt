use Rattle.std.proofs.Common.{rules}
use Rattle.fixedbitset.proofs.Words.{of_length}
use Rattle.fixedbitset.proofs.JoinedValues.{union_longer}
use Rattle.fixedbitset.proofs.views.BitsMut.union_with.Goals as goal

pub returns-clause-value : goal.returns-clause-value
returns-clause-value c = search (rules, of_length, union_longer) steps 300000
