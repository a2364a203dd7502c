use Rattle.fixedbitset.specs.JsonFacts as facts
use Rattle.bitlaws.proofs.laws.reads_back.Goals as goal

pub returns : goal.returns
returns c = facts.reads_back
