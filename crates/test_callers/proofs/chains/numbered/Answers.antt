use Rattle.std.proofs.lemmas.Iterator.{items_from_collect}
use Rattle.std.proofs.lemmas.Iterator.Consumers.{YieldsList-from_enumerate}
use Rattle.fixedbitset.specs.WalkFacts.{walk_list}
use Rattle.fixedbitset.specs.Bits as model
use Rattle.test_callers.proofs.chains.numbered.Goals as goal

pub returns : goal.returns
returns c =
    items_from_collect _ c.collect.ensures.ran (
    YieldsList-from_enumerate (walk_list _ (model.asc c.args.set.now) (cc)) (cc))
