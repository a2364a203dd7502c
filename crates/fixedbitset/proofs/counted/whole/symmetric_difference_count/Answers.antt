use Rattle.std.proofs.Common.{rules}
use Rattle.fixedbitset.proofs.JoinedCounts.{symmetric_difference_count_of}
use Rattle.fixedbitset.proofs.counted.whole.symmetric_difference_count.Goals as goal

pub returns-clause-count : goal.returns-clause-count
returns-clause-count c = search (rules, symmetric_difference_count_of) steps 300000
