use Rattle.std.proofs.Common.{nat_lt, rules, tests}
use Rattle.std.proofs.lemmas.Iterator.{items_from_collect}
use Rattle.fixedbitset.specs.WalkFacts.{walk_list}
use Rattle.std.proofs.lemmas.Iterator.Search.{YieldsList-from_take_while}
use Rattle.fixedbitset.specs.Bits as model
use Rattle.test_callers.proofs.chains.taken_below.Goals as goal

pub returns : goal.returns
returns c =
    items_from_collect _ c.collect.ensures.ran (
    YieldsList-from_take_while _ (λ p. nat_lt p c.args.end) (walk_list _ (model.asc c.args.set.now) (cc))
    c.take_while.ensures.closure c.take_while.ensures.done (λ x b q k. search (rules, tests)))
