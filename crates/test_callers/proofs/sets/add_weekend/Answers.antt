use Rattle.std.proofs.Common.{rules}
use Rattle.fixedbitset.specs.ExtendFacts.{all_added}
use Rattle.test_callers.proofs.sets.add_weekend.Goals as goal

pub returns : goal.returns
returns c = let (it, becomes, run) = c.extend.ensures in all_added c.extend.result run (search rules)
