use Rattle.std.proofs.Common.{rules, ◌≡◌, length, ap, arith}
use Rattle.uses.specs.FaultFacts.{row_more, each_row, other_row}
use Rattle.uses.specs.AccessLines.{IsQuestion}
use Rattle.uses.proofs.access.answers_of.Goals as goal

pub loop-row-preserved : goal.loop-row-preserved
loop-row-preserved c =
    row_more IsQuestion c.args.rows.now c.loop-row.row-index c.row-item.result c.loop-row-test.true c.row-item.is
    c.loop-row.invariant (rw c.deref.ensures.value at (c.in-Some.ensures.variant.0 (search rules)))

pub returns-clause-each : goal.returns-clause-each
returns-clause-each c =
    each_row IsQuestion c.args.rows.now c.loop-row.row-index c.loop-row-test.false c.loop-row.invariant

pub returns-in_default-clause-fault : goal.returns-in_default-clause-fault
returns-in_default-clause-fault c =
    other_row IsQuestion c.args.rows.now c.loop-row.row-index c.row-item.result c.loop-row-test.true c.row-item.is
    c.loop-row.invariant
    (λ is. let none : length c.deref.result.now ≡ 0 = rw c.in_default.is at c.split_first.ensures.cases in
    let same = ap length c.deref.ensures.value in absurd (omega arith))
