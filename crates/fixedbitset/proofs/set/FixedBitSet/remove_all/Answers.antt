use Rattle.fixedbitset.proofs.Words.{viewed_length, given_back}
use Rattle.std.proofs.Common.{rules}
use Rattle.fixedbitset.proofs.set.FixedBitSet.remove_all.Goals as goal

pub returns : goal.returns
returns c = search (rules, given_back, viewed_length) steps 2000000
