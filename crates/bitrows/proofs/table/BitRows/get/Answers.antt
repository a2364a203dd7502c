use Rattle.std.proofs.Common.{arith}
use Rattle.bitrows.specs.TableFacts.{has-past}
use Rattle.bitrows.proofs.table.BitRows.get.Goals as goal

pub returns-else-row-rows : goal.returns-else-row-rows
returns-else-row-rows c =
    grind (arith, has-past c.args.self.now c.args.row c.args.column, c.if-row-rows.false, c.rows.ensures)
