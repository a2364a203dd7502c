use Rattle.std.proofs.Common.{rules}
use Rattle.fixedbitset.proofs.Words.{given_back, viewed_length}
use Rattle.fixedbitset.proofs.set.FixedBitSet.insert_all.Goals as goal

pub returns-clause-value : goal.returns-clause-value
returns-clause-value c = search (rules, given_back, viewed_length) steps 2000000
