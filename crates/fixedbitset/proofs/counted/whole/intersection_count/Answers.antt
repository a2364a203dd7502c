use Rattle.fixedbitset.proofs.JoinedCounts.{intersection_count_of}
use Rattle.std.proofs.Common.{rules}
use Rattle.fixedbitset.proofs.counted.whole.intersection_count.Goals as goal

pub returns-clause-count : goal.returns-clause-count
returns-clause-count c = search (rules, intersection_count_of) steps 300000
