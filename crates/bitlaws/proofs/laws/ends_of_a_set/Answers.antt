use Rattle.bitlaws.proofs.OfOrder.{minimum_is_least, maximum_is_greatest}
use Rattle.bitlaws.proofs.laws.ends_of_a_set.Goals as goal

pub returns : goal.returns
returns c = search (minimum_is_least, maximum_is_greatest)
