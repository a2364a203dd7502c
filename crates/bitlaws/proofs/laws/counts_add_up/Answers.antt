use Rattle.bitlaws.proofs.OfTwoSets.{counts-sum}
use Rattle.bitlaws.proofs.laws.counts_add_up.Goals as goal

pub returns : goal.returns
returns c = counts-sum
