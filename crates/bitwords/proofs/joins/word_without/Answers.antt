use Rattle.std.proofs.Common.{rules}
use Rattle.bitwords.proofs.Lacking.{row_words}
use Rattle.bitwords.proofs.joins.word_without.Goals as goal

pub returns-then-at-b : goal.returns-then-at-b
returns-then-at-b c = search (rules, row_words) steps 300000
