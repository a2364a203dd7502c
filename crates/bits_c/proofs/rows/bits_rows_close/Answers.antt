use Rattle.std.proofs.Common.{sym, ◌∙◌, rules}
use Rattle.bitrows.specs.StoredFacts.{length-table, columns-table}
use Rattle.bits_c.proofs.rows.bits_rows_close.Goals as goal

pub returns-clause-size : goal.returns-clause-size
returns-clause-size c = (
  length-table _ _ _ _ ∙ c.close.ensures.words.rows ∙ sym (length-table _ _ _ _),
  columns-table _ _ _ _ ∙ c.close.ensures.words.columns ∙ sym (columns-table _ _ _ _),
)

pub returns-clause-closed : goal.returns-clause-closed
returns-clause-closed c = search rules steps 100000
