use Rattle.std.proofs.Common.{rules}
use Rattle.bitrows.proofs.table.BitRows.as_rows.Goals as goal

pub returns-clause-table : goal.returns-clause-table
returns-clause-table c = search rules steps 300000
