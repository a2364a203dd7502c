use Rattle.fixedbitset.proofs.JoinedChanges.{intersection_changes}
use Rattle.fixedbitset.proofs.JoinedValues.{intersection_joined}
use Rattle.std.proofs.Common.{rules}
use Rattle.fixedbitset.proofs.views.BitsMut.intersect_with_change.Goals as goal

pub returns-clause-changed : goal.returns-clause-changed
returns-clause-changed c = search (rules, intersection_joined, intersection_changes) steps 300000
