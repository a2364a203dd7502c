use Rattle.std.proofs.Common.{ℕ, Bool, true, arith}
use Rattle.bitwords.specs.Rows.{bit_test}
use Rattle.bitwords.specs.CountFacts.{count-le}
use Rattle.bitwords.proofs.Counted.{count-edges}
use Rattle.bitwords.proofs.ranges.count_long.Goals as goal

pub overflow_add-result : goal.overflow_add-result
overflow_add-result g c =
    let bits : ℕ → Bool = bit_test (g.O.WordOp.truth true) c.args.words.now in
    omega (
      arith,
      c.count_part-first.ensures.count,
      c.count_lanes-middle.ensures.count,
      count-edges _ _ _ _ c.cut-low.ensures bits,
      count-le bits c.cut-low.result.1,
      c.cut-low.ensures.last,
    )

pub overflow_add-result-2 : goal.overflow_add-result-2
overflow_add-result-2 g c =
    let bits : ℕ → Bool = bit_test (g.O.WordOp.truth true) c.args.words.now in
    omega (
      arith,
      c.count_part-first.ensures.count,
      c.count_lanes-middle.ensures.count,
      count-edges _ _ _ _ c.cut-low.ensures bits,
      c.count_part-last.ensures.count,
      count-le bits c.args.end,
    )

pub returns-clause-count : goal.returns-clause-count
returns-clause-count g c =
    let bits : ℕ → Bool = bit_test (g.O.WordOp.truth true) c.args.words.now in
    omega (
      arith,
      c.count_part-first.ensures.count,
      c.count_lanes-middle.ensures.count,
      count-edges _ _ _ _ c.cut-low.ensures bits,
      c.count_part-last.ensures.count,
    )

pub returns-clause-cost : goal.returns-clause-cost
returns-clause-cost g c = grind arith
