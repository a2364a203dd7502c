use Rattle.bitlaws.proofs.OneList.{one_ascending_list}
use Rattle.bitlaws.proofs.laws.one_ascending_list.Goals as goal

pub returns : goal.returns
returns c = one_ascending_list
