use Rattle.std.proofs.lemmas.Iterator.{YieldsList-from_slice}
use Rattle.std.proofs.lemmas.Iterator.Consumers.{YieldsList-at, YieldsList-from_copied}
use Rattle.fixedbitset.specs.ExtendFacts.{all_made}
use Rattle.test_callers.proofs.sets.set_of.Goals as goal

pub returns : goal.returns
returns c =
    let (it, new, becomes, run, same) = c.from_iter.ensures in
    let all = YieldsList-from_copied
    (YieldsList-at c.copied.ensures.source (YieldsList-from_slice c.args.items.now c.iter.ensures.rest)) in
    all_made c.from_iter.result run same (YieldsList-at becomes all)
