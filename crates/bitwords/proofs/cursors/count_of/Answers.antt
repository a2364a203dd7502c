use Rattle.std.proofs.Common.{◌∙◌, rules, arith}
use Rattle.bitwords.proofs.Counted.{row-ones}
use Rattle.bitwords.proofs.CountedLeft.{ones-le}
use Rattle.bitwords.proofs.cursors.count_of.Goals as goal

pub count_one-requires : goal.count_one-requires
count_one-requires c = record { fits = omega (arith, c.requires, ones-le c.args.words.now (λ k. search rules)) }

pub returns-clause-count : goal.returns-clause-count
returns-clause-count c = c.count_one.ensures.ones ∙ row-ones c.args.words.now (λ k. search rules)
