use Rattle.std.proofs.Common.{arith}
use Rattle.bitrows.proofs.RowWords.{given_back, viewed_rows, viewed_columns}
use Rattle.bitrows.proofs.counted.close.Goals as goal

pub returns-clause-cost : goal.returns-clause-cost
returns-clause-cost c = grind (arith, given_back, viewed_rows, viewed_columns) steps 300000
