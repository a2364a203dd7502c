use Rattle.std.proofs.Common.{rules, tests}
use Rattle.fixedbitset.specs.WalkFacts.{walk_list}
use Rattle.std.proofs.lemmas.Iterator.Search.{any_from_yields_List}
use Rattle.test_callers.proofs.chains.any_from.Goals as goal

pub returns : goal.returns
returns c =
    any_from_yields_List _ c.any.new.self _ _ c.any.ensures.ran (walk_list _ _ c.ones.ensures.items)
    (λ x b q k. search (rules, tests))
