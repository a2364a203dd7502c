use Rattle.std.proofs.Common.{arith}
use Rattle.bitwords.proofs.joins.count_words.Goals as goal

pub returns-else-a-b-clause-cost : goal.returns-else-a-b-clause-cost
returns-else-a-b-clause-cost g c = omega arith
