use Rattle.std.proofs.Common.{rules, tests, sym, ◌∙◌}
use Rattle.std.proofs.lemmas.Iterator.Adapters.{option_map_id}
use Rattle.fixedbitset.specs.WalkFacts.{walk_list}
use Rattle.std.proofs.lemmas.Iterator.Search.{find_from_yields_List}
use Rattle.test_callers.proofs.chains.find.Goals as goal

pub returns : goal.returns
returns c =
    sym (option_map_id _)
    ∙ find_from_yields_List _ c.find.new.self _ _ c.find.ensures.ran (walk_list _ _ c.ones.ensures.items)
    (λ x b q k. search (rules, tests))
