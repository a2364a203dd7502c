use Rattle.std.proofs.Common.{rules}
use Rattle.fixedbitset.proofs.JoinedCounts.{difference_count_of}
use Rattle.fixedbitset.proofs.counted.whole.difference_count.Goals as goal

pub returns-clause-count : goal.returns-clause-count
returns-clause-count c = search (rules, difference_count_of) steps 300000
