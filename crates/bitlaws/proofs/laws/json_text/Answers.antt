use Rattle.fixedbitset.specs.JsonFacts.{text-written, has_float-written, depth-written}
use Rattle.bitlaws.proofs.laws.json_text.Goals as goal

pub returns : goal.returns
returns c = search (text-written, has_float-written, depth-written)
