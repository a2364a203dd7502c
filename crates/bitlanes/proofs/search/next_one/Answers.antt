use Rattle.std.proofs.Common.{arith}
use Rattle.std.proofs.lemmas.Grind.{common_steps}
use Rattle.bitlanes.proofs.search.next_one.Goals as goal

pub loop-at-preserved : goal.loop-at-preserved
loop-at-preserved g c =
    record { zeros = λ i from below. grind (arith, common_steps, c.loop-at.invariant.zeros i); cost = grind arith }

pub returns-then-word-ne0-clause-cost : goal.returns-then-word-ne0-clause-cost
returns-then-word-ne0-clause-cost g c = grind arith

pub returns-clause-exact_if_none : goal.returns-clause-exact_if_none
returns-clause-exact_if_none g c = grind arith

pub returns-then-word-ne0-clause-found : goal.returns-then-word-ne0-clause-found
returns-then-word-ne0-clause-found g c = grind (arith, common_steps)

pub returns-clause-none : goal.returns-clause-none
returns-clause-none g c i from = grind (arith, common_steps, c.loop-at.invariant.zeros i)
