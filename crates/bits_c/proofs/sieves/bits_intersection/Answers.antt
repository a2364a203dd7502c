use Rattle.std.proofs.Common.{◌∙◌}
use Rattle.bits_c.proofs.Between.{shared_left}
use Rattle.bits_c.proofs.sieves.bits_intersection.Goals as goal

pub returns-clause-words : goal.returns-clause-words
returns-clause-words c = c.of.ensures.words ∙ shared_left _ _ _ _ _ c.intersection.ensures.words
