use Rattle.bitrows.proofs.RowWords.{viewed_rows}
use Rattle.bitrows.proofs.table.BitRows.rows.Goals as goal

pub returns : goal.returns
returns c = viewed_rows _ _ _ _ _ c.self.view_is
