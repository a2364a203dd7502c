use Rattle.std.proofs.Common.{rules}
use Rattle.fixedbitset.proofs.JoinedValues.{difference_joined}
use Rattle.fixedbitset.proofs.views.BitsMut.difference_with.Goals as goal

pub returns-clause-value : goal.returns-clause-value
returns-clause-value c = search (rules, difference_joined) steps 300000
