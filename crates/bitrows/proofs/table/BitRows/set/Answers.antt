use Rattle.std.proofs.lemmas.Grind.{common_steps}
use Rattle.bitrows.proofs.RowWords.{viewed_columns, viewed_rows, given_back}
use Rattle.std.proofs.Common.{arith}
use Rattle.bitrows.proofs.table.BitRows.set.Goals as goal

pub returns : goal.returns
returns c = grind (arith, common_steps, given_back, viewed_rows, viewed_columns) steps 300000
