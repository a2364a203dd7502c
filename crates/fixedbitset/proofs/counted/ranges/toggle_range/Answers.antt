use Rattle.std.proofs.Common.{rules}
use Rattle.fixedbitset.proofs.Words.{given_back, viewed_length}
use Rattle.fixedbitset.proofs.counted.ranges.toggle_range.Goals as goal

pub returns-clause-value : goal.returns-clause-value
returns-clause-value g c = search (rules, given_back, viewed_length) steps 2000000
