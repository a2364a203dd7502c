use Rattle.fixedbitset.proofs.JoinedValues.{toggle_joined}
use Rattle.std.proofs.Common.{rules}
use Rattle.fixedbitset.proofs.views.BitsMut.toggle_range.Goals as goal

pub returns-clause-value : goal.returns-clause-value
returns-clause-value c = search (rules, toggle_joined) steps 300000
