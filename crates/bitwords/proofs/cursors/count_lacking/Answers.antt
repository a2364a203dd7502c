use Rattle.std.proofs.Common.{rules, arith}
use Rattle.bitwords.proofs.CountedLeft.{count-inverted, ones-le}
use Rattle.bitwords.proofs.cursors.count_lacking.Goals as goal

pub count_one-requires : goal.count_one-requires
count_one-requires c = record { fits = omega (arith, c.requires, ones-le c.args.words.now (λ k. search rules)) }

pub overflow_sub-result : goal.overflow_sub-result
overflow_sub-result c = omega (arith, c.count_one.ensures.ones, ones-le c.args.words.now (λ k. search rules))

pub returns-clause-count : goal.returns-clause-count
returns-clause-count c =
    omega (arith, c.count_one.ensures.ones, count-inverted c.args.words.now (λ k. search rules))
