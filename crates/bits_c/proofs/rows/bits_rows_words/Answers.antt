use Rattle.std.proofs.Common.{rules}
use Rattle.bits_c.proofs.rows.bits_rows_words.Goals as goal

pub returns-clause-none : goal.returns-clause-none
returns-clause-none c = search rules steps 300000
