use Rattle.std.proofs.Common.{◌/◌, ◌%◌, ◌+◌, ◌*◌, arith, rules}
use Rattle.bitwords.specs.Rows.{has_bit}
use Rattle.bitwords.specs.CountFacts.{count-le}
use Rattle.bitwords.specs.NthFacts.{word-count}
use Rattle.bitranks.proofs.Counting.{count-upto}
use Rattle.bitranks.proofs.directory.rank_within.Goals as goal

pub overflow_add-total : goal.overflow_add-total
overflow_add-total c =
    let ws = c.args.words.now in
    omega (
      arith,
      c.loop-k.invariant.count,
      word-count ws (λ k. search rules) c.loop-k.k,
      count-le (has_bit ws) (64 * (c.loop-k.k + 1)),
    )

pub loop-k-preserved : goal.loop-k-preserved
loop-k-preserved c = grind (arith, c.loop-k.invariant.count, word-count c.args.words.now (λ k. search rules) c.loop-k.k)

pub overflow_add-result : goal.overflow_add-result
overflow_add-result c =
    let ws = c.args.words.now in
    let position = c.args.position in
    let all = count-upto ws (λ k. search rules) (position / 64) position (position % 64) c.ones_below.result
    c.loop-k.total c.loop-k.k
    c.loop-k.invariant.count (omega arith) (omega arith) (omega arith) (omega arith) c.ones_below.ensures in
    omega (arith, all, count-le (has_bit ws) position)

pub returns-clause-count : goal.returns-clause-count
returns-clause-count c =
    let position = c.args.position in
    count-upto c.args.words.now (λ k. search rules) (position / 64) position (position % 64)
    c.ones_below.result c.loop-k.total c.loop-k.k
    c.loop-k.invariant.count (omega arith) (omega arith) (omega arith) (omega arith) c.ones_below.ensures

pub loop-k-init : goal.loop-k-init
loop-k-init c = search rules steps 300000
