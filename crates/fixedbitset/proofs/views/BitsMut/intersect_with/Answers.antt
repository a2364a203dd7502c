use Rattle.fixedbitset.proofs.JoinedValues.{intersection_joined}
use Rattle.std.proofs.Common.{rules}
use Rattle.fixedbitset.proofs.views.BitsMut.intersect_with.Goals as goal

pub returns-clause-value : goal.returns-clause-value
returns-clause-value c = search (rules, intersection_joined) steps 300000
