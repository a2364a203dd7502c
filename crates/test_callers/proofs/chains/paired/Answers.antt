use Rattle.std.proofs.lemmas.Iterator.{items_from_collect, YieldsList-from_zip}
use Rattle.fixedbitset.specs.WalkFacts.{walk_list}
use Rattle.fixedbitset.specs.Bits as model
use Rattle.test_callers.proofs.chains.paired.Goals as goal

pub returns : goal.returns
returns c =
    items_from_collect _ c.collect.ensures.ran (
    YieldsList-from_zip (walk_list _ (model.asc c.args.set.now) (cc)) (walk_list _ (model.asc c.args.other.now) (cc)))
