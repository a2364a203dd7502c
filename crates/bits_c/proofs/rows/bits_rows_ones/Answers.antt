use Rattle.std.proofs.Common.{ap, ◌∙◌, rules}
use Rattle.bits_c.specs.Walks.{words_between}
use Rattle.bits_c.proofs.Between.{words_left}
use Rattle.bits_c.proofs.rows.bits_rows_ones.Goals as goal

pub returns-then-row-rows-clause-words : goal.returns-then-row-rows-clause-words
returns-then-row-rows-clause-words c =
    words_left _ _ _ (c.of.ensures.words ∙ c.ones.ensures.words) ∙ ap words_between c.row.ensures.length

pub returns-then-row-rows-clause-left : goal.returns-then-row-rows-clause-left
returns-then-row-rows-clause-left c = search rules steps 300000
