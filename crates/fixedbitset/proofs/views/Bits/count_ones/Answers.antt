use Rattle.std.proofs.Common.{rules}
use Rattle.fixedbitset.proofs.JoinedCounts.{count_ones_of}
use Rattle.fixedbitset.proofs.views.Bits.count_ones.Goals as goal

pub returns-clause-count : goal.returns-clause-count
returns-clause-count c = search (rules, count_ones_of) steps 100000
