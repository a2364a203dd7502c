use Rattle.std.proofs.Common.{◌∙◌, sym, arith}
use Rattle.fixedbitset.specs.FirstFacts.{first_zero}
use Rattle.test_callers.proofs.zeroes.first_clear_or_end.Goals as goal

pub returns-in-Some-clause-clear : goal.returns-in-Some-clause-clear
returns-in-Some-clause-clear c =
    let is_first = sym c.zeroes.ensures.items ∙ c.in-Some.ensures.steps.0 in
    λ _. (first_zero c.args.set.now c.in-Some.slot c.next.new.self.items is_first).1

pub returns-in-Some-clause-full : goal.returns-in-Some-clause-full
returns-in-Some-clause-full c =
    let is_first = sym c.zeroes.ensures.items ∙ c.in-Some.ensures.steps.0 in
    let below = (first_zero c.args.set.now c.in-Some.slot c.next.new.self.items is_first).0 in
    λ at_end _ _. grind (arith, at_end, below)
