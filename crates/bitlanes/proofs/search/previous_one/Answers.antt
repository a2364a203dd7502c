use Rattle.std.proofs.Common.{◌-◌, arith}
use Rattle.std.proofs.lemmas.Grind.{common_steps}
use Rattle.std.proofs.lemmas.List.{get_or-take}
use Rattle.bitlanes.proofs.search.previous_one.Goals as goal

pub returns-clause-none : goal.returns-clause-none
returns-clause-none g c i below = grind (arith, c.loop-at.invariant.zeros i)

pub returns-clause-exact_if_none : goal.returns-clause-exact_if_none
returns-clause-exact_if_none g c = grind arith

pub loop-at-preserved : goal.loop-at-preserved
loop-at-preserved g c =
    let cut = get_or-take c.if-below-gt-LANE.end c.args.words.now (c.loop-at.at - 1) 0 (omega arith) in
    record { zeros = λ i from below. grind (arith, common_steps, c.loop-at.invariant.zeros i, cut); cost = grind arith }

pub returns-then-word-ne0-clause-found : goal.returns-then-word-ne0-clause-found
returns-then-word-ne0-clause-found g c =
    let cut = get_or-take c.if-below-gt-LANE.end c.args.words.now (c.loop-at.at - 1) 0 (omega arith) in
    grind (arith, common_steps, cut)

pub returns-then-word-ne0-clause-cost : goal.returns-then-word-ne0-clause-cost
returns-then-word-ne0-clause-cost g c = grind arith
