use Rattle.std.proofs.Common.{◌≡◌, true, false, rules, tests}
use Rattle.std.proofs.lemmas.Iterator.{cases_from_all}
use Rattle.fixedbitset.specs.Bits.{contains}
use Rattle.fixedbitset.specs.WalkFacts.{walk_list, contains_item}
use Rattle.test_callers.proofs.chains.all_in.Goals as goal

pub returns-clause-no : goal.returns-clause-no
returns-clause-no c =
    let told = cases_from_all c.all.new.self _ _ (λ p. contains c.args.other.now p ≡ true)
    (λ p. contains c.args.other.now p ≡ false) c.all.ensures.ran (walk_list _ _ c.ones.ensures.items)
    (λ x q k. search (rules, tests)) (λ x q k. search (rules, tests)) in
    search (rules, told, contains_item)
