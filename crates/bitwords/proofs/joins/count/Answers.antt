use Rattle.std.proofs.Common.{◌∙◌, rules, arith}
use Rattle.bitwords.proofs.TwoRows.{longest-ones}
use Rattle.bitwords.proofs.joins.count.Goals as goal

pub count_words-requires : goal.count_words-requires
count_words-requires g c =
    omega (arith, longest-ones g.met.O.WordOp.laws c.args.a.now c.args.b.now (λ k. search rules) (λ k. search rules))

pub returns-clause-count : goal.returns-clause-count
returns-clause-count g c =
    c.count_words.ensures.ones
    ∙ longest-ones g.met.O.WordOp.laws c.args.a.now c.args.b.now (λ k. search rules) (λ k. search rules)
