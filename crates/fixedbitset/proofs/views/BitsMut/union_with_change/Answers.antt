use Rattle.std.proofs.Common.{rules}
use Rattle.fixedbitset.proofs.Words.{of_length}
use Rattle.fixedbitset.proofs.JoinedValues.{union_longer}
use Rattle.fixedbitset.proofs.JoinedChanges.{union_changes}
use Rattle.fixedbitset.proofs.views.BitsMut.union_with_change.Goals as goal

pub returns-clause-value : goal.returns-clause-value
returns-clause-value c = search (rules, of_length, union_longer, union_changes) steps 300000
