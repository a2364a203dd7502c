use Rattle.std.proofs.Common.{◌+◌, ◌*◌, rules, true, ap, arith}
use Rattle.std.specs.Int.Count.{ones}
use Rattle.bitwords.specs.Rows.{bit_test}
use Rattle.bitwords.specs.CountFacts.{count-le}
use Rattle.bitwords.proofs.Counted.{count-whole}
use Rattle.bitwords.proofs.ranges.count_whole.Goals as goal

pub overflow_add-total : goal.overflow_add-total
overflow_add-total g c =
    let more = count-whole g.met.O.WordOp.laws c.requires.drops c.args.words.now (λ k. search rules) c.loop-k.k in
    omega (
      arith,
      c.loop-k.invariant.count,
      ap ones c.word.ensures,
      more,
      count-le (bit_test (g.O.WordOp.truth true) c.args.words.now) (64 * (c.loop-k.k + 1)),
    )

pub loop-k-preserved : goal.loop-k-preserved
loop-k-preserved g c =
    let more = count-whole g.met.O.WordOp.laws c.requires.drops c.args.words.now (λ k. search rules) c.loop-k.k in
    record { count = omega (arith, c.loop-k.invariant.count, ap ones c.word.ensures, more); cost = omega arith }
