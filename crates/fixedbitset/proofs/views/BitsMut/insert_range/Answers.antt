use Rattle.fixedbitset.proofs.JoinedValues.{insert_joined}
use Rattle.std.proofs.Common.{rules}
use Rattle.fixedbitset.proofs.views.BitsMut.insert_range.Goals as goal

pub returns-clause-value : goal.returns-clause-value
returns-clause-value c = search (rules, insert_joined) steps 300000
