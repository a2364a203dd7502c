use Rattle.std.proofs.Common.{◌∙◌, rules}
use Rattle.bits_c.proofs.Between.{inverted_left}
use Rattle.bits_c.proofs.walks.bits_zeroes.Goals as goal

pub returns-clause-words : goal.returns-clause-words
returns-clause-words c = c.of.ensures.words ∙ inverted_left _ _ _ c.zeroes.ensures.words

pub returns-clause-left : goal.returns-clause-left
returns-clause-left c = search rules steps 100000
