use Rattle.bitrows.proofs.RowWords.{viewed_columns, viewed_all}
use Rattle.bitrows.proofs.table.BitRows.columns.Goals as goal

pub returns-clause-count : goal.returns-clause-count
returns-clause-count c = viewed_columns _ _ _ _ _ c.self.view_is

pub returns-clause-all : goal.returns-clause-all
returns-clause-all c = viewed_all _ _ _ _ _ c.self.view_is
