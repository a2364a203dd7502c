use Rattle.std.proofs.Common.{rules, tests}
use Rattle.fixedbitset.specs.WalkFacts.{walk_list}
use Rattle.std.proofs.lemmas.Iterator.Search.{position_from_yields_List}
use Rattle.test_callers.proofs.chains.place_of.Goals as goal

pub returns : goal.returns
returns c =
    position_from_yields_List _ c.position.new.self _ _ c.position.ensures.ran (walk_list _ _ c.ones.ensures.items)
    (λ x b q k. search (rules, tests))
