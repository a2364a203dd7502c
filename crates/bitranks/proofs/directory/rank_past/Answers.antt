use Rattle.std.proofs.Common.{◌≡◌, ◌+◌, ◌*◌, length, min, arith, rules}
use Rattle.std.proofs.lemmas.Bool.{eqb-true}
use Rattle.bitwords.specs.Rows.{has_bit}
use Rattle.bitwords.specs.CountFacts.{count-le}
use Rattle.bitwords.specs.NthFacts.{word-count}
use Rattle.bitranks.proofs.Counting.{count-min, not_zero, count-upto}
use Rattle.bitranks.proofs.directory.rank_past.Goals as goal

pub returns-then-is_empty-clause-count : goal.returns-then-is_empty-clause-count
returns-then-is_empty-clause-count c =
    let ws = c.args.words.now in
    let none : length ws ≡ 0 = eqb-true _ _ (search rules) in
    omega (arith, count-min ws c.args.position, count-le (has_bit ws) (min c.args.position (64 * length ws)))

pub overflow_add-total : goal.overflow_add-total
overflow_add-total c =
    let ws = c.args.words.now in
    omega (
      arith,
      c.loop-k.invariant.count,
      word-count ws (λ k. search rules) c.loop-k.k,
      count-le (has_bit ws) (64 * (c.loop-k.k + 1)),
      c.min-at.ensures,
    )

pub loop-k-preserved : goal.loop-k-preserved
loop-k-preserved c = grind (arith, c.loop-k.invariant.count, word-count c.args.words.now (λ k. search rules) c.loop-k.k)

pub overflow_add-result : goal.overflow_add-result
overflow_add-result c =
    let ws = c.args.words.now in
    let all = count-upto ws (λ k. search rules) c.min-at.result c.args.position c.min-below.result c.ones_below.result
    c.loop-k.total c.loop-k.k
    c.loop-k.invariant.count (omega arith) c.min-at.ensures (not_zero _ (search rules)) c.min-below.ensures
    c.ones_below.ensures in
    omega (arith, all, count-le (has_bit ws) c.args.position)

pub returns-clause-count : goal.returns-clause-count
returns-clause-count c =
    count-upto c.args.words.now (λ k. search rules) c.min-at.result c.args.position c.min-below.result
    c.ones_below.result c.loop-k.total c.loop-k.k
    c.loop-k.invariant.count (omega arith) c.min-at.ensures (not_zero _ (search rules)) c.min-below.ensures
    c.ones_below.ensures

pub loop-k-init : goal.loop-k-init
loop-k-init c = search rules steps 300000
