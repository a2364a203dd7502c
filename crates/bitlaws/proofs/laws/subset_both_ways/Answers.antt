use Rattle.bitlaws.proofs.OfTwoSets.{subsets}
use Rattle.bitlaws.proofs.laws.subset_both_ways.Goals as goal

pub returns : goal.returns
returns c = subsets
