use Rattle.std.proofs.Common.{rules, tests}
use Rattle.fixedbitset.specs.WalkFacts.{walk_list}
use Rattle.std.proofs.lemmas.Iterator.Search.{all_from_yields_List}
use Rattle.test_callers.proofs.chains.all_below.Goals as goal

pub returns : goal.returns
returns c =
    all_from_yields_List _ c.all.new.self _ _ c.all.ensures.ran (walk_list _ _ c.ones.ensures.items)
    (λ x b q k. search (rules, tests))
