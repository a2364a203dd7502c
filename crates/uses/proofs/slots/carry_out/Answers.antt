use Rattle.uses.specs.FaultFacts.{row_more, each_row, other_row}
use Rattle.uses.specs.Commands.{IsCommand}
use Rattle.uses.proofs.slots.carry_out.Goals as goal

pub loop-row-preserved : goal.loop-row-preserved
loop-row-preserved c =
    row_more IsCommand c.args.rows.now c.loop-row.row-index c.row-item.result c.loop-row-test.true c.row-item.is
    c.loop-row.invariant (rw c.deref.ensures.value at c.in-Some.ensures)

pub returns-clause-each : goal.returns-clause-each
returns-clause-each c =
    each_row IsCommand c.args.rows.now c.loop-row.row-index c.loop-row-test.false c.loop-row.invariant

pub returns-in_default-clause-fault : goal.returns-in_default-clause-fault
returns-in_default-clause-fault c =
    other_row IsCommand c.args.rows.now c.loop-row.row-index c.row-item.result c.loop-row-test.true c.row-item.is
    c.loop-row.invariant (rw c.in_default.is at (rw c.deref.ensures.value at c.answer_to.ensures))
