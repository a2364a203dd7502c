use Rattle.std.proofs.Common.{◌∙◌, rules}
use Rattle.bits_c.proofs.Between.{words_left}
use Rattle.bits_c.proofs.walks.bits_ones.Goals as goal

pub returns-clause-words : goal.returns-clause-words
returns-clause-words c = words_left _ _ _ (c.of.ensures.words ∙ c.ones.ensures.words)

pub returns-clause-left : goal.returns-clause-left
returns-clause-left c = search rules steps 100000
