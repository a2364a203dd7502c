use Rattle.std.proofs.Common.{arith, rules}
use Rattle.bitwords.specs.NthFacts.{word-count, nth-word}
use Rattle.bitwords.proofs.positions.nth.Goals as goal

pub returns-then-left-ones-clause-found : goal.returns-then-left-ones-clause-found
returns-then-left-ones-clause-found c =
    nth-word c.args.words.now (λ k. search rules) c.loop-k.k _ c.loop-k.left c.nth_bit.result c.nth_bit.ensures.within
    c.nth_bit.ensures.nth c.loop-k.invariant.count

pub loop-k-preserved : goal.loop-k-preserved
loop-k-preserved c =
    grind (
      arith,
      c.loop-k.invariant.count,
      word-count c.args.words.now (λ k. search rules) c.loop-k.k,
      c.if-left-ones.false,
    )

pub returns-then-left-ones-clause-cost : goal.returns-then-left-ones-clause-cost
returns-then-left-ones-clause-cost c = search rules steps 300000
