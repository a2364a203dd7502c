use Rattle.std.proofs.Common.{◌∙◌, rules}
use Rattle.bits_c.proofs.Between.{difference_left}
use Rattle.bits_c.proofs.structs.Sieve.lacking.Goals as goal

pub returns-clause-words : goal.returns-clause-words
returns-clause-words c = c.of.ensures.words ∙ difference_left _ _ _ _ c.difference-cursor.ensures.words

pub returns-clause-left : goal.returns-clause-left
returns-clause-left c = search rules steps 100000
