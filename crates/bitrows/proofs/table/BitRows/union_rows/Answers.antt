use Rattle.std.proofs.Common.{arith}
use Rattle.bitrows.proofs.RowWords.{given_back, viewed_rows, viewed_columns}
use Rattle.bitrows.proofs.table.BitRows.union_rows.Goals as goal

pub returns-clause-value : goal.returns-clause-value
returns-clause-value c = grind (arith, given_back, viewed_rows, viewed_columns) steps 300000
