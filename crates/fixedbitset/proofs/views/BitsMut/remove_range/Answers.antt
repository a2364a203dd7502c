use Rattle.fixedbitset.proofs.JoinedValues.{remove_joined}
use Rattle.std.proofs.Common.{rules}
use Rattle.fixedbitset.proofs.views.BitsMut.remove_range.Goals as goal

pub returns-clause-value : goal.returns-clause-value
returns-clause-value c = search (rules, remove_joined) steps 300000
