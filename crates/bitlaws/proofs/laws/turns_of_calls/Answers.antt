use Rattle.bitlaws.proofs.OfWalks.{turns_of_calls, looks_up_once, joins_once, splits_once}
use Rattle.bitlaws.proofs.laws.turns_of_calls.Goals as goal

pub returns : goal.returns
returns c = search (turns_of_calls, looks_up_once, joins_once, splits_once)
