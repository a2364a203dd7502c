use Rattle.bitlaws.proofs.OfOrder.{equal_tells, compare_tells}
use Rattle.bitlaws.proofs.laws.order_tells.Goals as goal

pub returns : goal.returns
returns c = search (equal_tells, compare_tells)
