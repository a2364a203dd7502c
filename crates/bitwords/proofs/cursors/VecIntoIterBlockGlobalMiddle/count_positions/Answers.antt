use Rattle.std.proofs.Common.{◌*◌, length, [], ap, rules, arith}
use Rattle.std.specs.Vec.Iter.{into_iter_items}
use Rattle.bitwords.specs.CountFacts.{count-le, count-zero}
use Rattle.bitwords.specs.Rows.{has_bit}
use Rattle.bitwords.proofs.CountedLeft.{row_count, count-cons}
use Rattle.bitwords.proofs.cursors.VecIntoIterBlockGlobalMiddle.count_positions.Goals as goal

pub overflow_add-total : goal.overflow_add-total
overflow_add-total c =
    let rest = into_iter_items c.take_first.new.self in
    let all = into_iter_items c.args.self in
    omega (
      arith,
      c.requires,
      c.loop-word.invariant.counted,
      ap row_count c.in-Some.ensures,
      count-cons c.in-Some.word rest (search rules),
      count-le (has_bit all) (64 * length all),
    )

pub loop-word-preserved : goal.loop-word-preserved
loop-word-preserved c =
    let rest = into_iter_items c.take_first.new.self in
    record {
      counted =
          omega (
            arith,
            c.loop-word.invariant.counted,
            ap row_count c.in-Some.ensures,
            count-cons c.in-Some.word rest (search rules),
          );
    }

pub returns-clause-count : goal.returns-clause-count
returns-clause-count c =
    omega (arith, c.loop-word.invariant.counted, ap row_count c.in_default.ensures.0, count-zero (has_bit []))

pub returns-clause-cost : goal.returns-clause-cost
returns-clause-cost c = omega (arith, c.left.ensures, c.tick_lanes.ensures)

pub returns-clause-exact : goal.returns-clause-exact
returns-clause-exact c = omega (arith, c.left.ensures, c.tick_lanes.ensures)
