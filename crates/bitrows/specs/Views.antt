-- What a clause sees of a table over borrowed words: the table of the words and the numbers of rows and columns.
use Rattle.std.specs.Prelude.{◌≡◌}
use Rattle.bitrows.specs.Stored.{table_in}
use Rattle.bitrows.specs.Tables.{Table}
use Rattle.bitrows.specs.declared.views.Rows.{Rows}
use Rattle.bitrows.specs.declared.views.RowsMut.{RowsMut}

-- a table that is read
abbrev pub table : Rows → Table
table view = table_in view.rows view.columns view.words.now

-- a table that may be changed
abbrev pub held : RowsMut → Table
held view = table_in view.rows view.columns view.words.now

-- the same words, with as many rows and columns, and they mean t
pub record Becomes (old new : RowsMut) (t : Table) : Type 0 where
  pub table : held new ≡ t
  pub rows : new.rows ≡ old.rows
  pub columns : new.columns ≡ old.columns
  pub same : new.words.ghost_name ≡ old.words.ghost_name
