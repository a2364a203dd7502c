use Rattle.bitlaws.proofs.OfTwoSets.{symmetric_difference_count-sum}
use Rattle.bitlaws.proofs.laws.symmetric_difference_count_is_a_sum.Goals as goal

pub returns : goal.returns
returns c = symmetric_difference_count-sum
