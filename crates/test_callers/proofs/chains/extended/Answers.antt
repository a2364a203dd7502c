use Rattle.std.proofs.Common.{rules}
use Rattle.std.proofs.lemmas.Iterator.Adapters.{items_from_extend}
use Rattle.fixedbitset.specs.WalkFacts.{walk_list}
use Rattle.fixedbitset.specs.Bits as model
use Rattle.test_callers.proofs.chains.extended.Goals as goal

pub returns : goal.returns
returns c =
    let h = items_from_extend c.extend.result c.extend.ensures.ran (walk_list _ (model.asc c.args.set.now) (cc)) in
    search rules
