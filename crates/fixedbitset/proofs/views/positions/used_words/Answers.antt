use Rattle.std.proofs.Common.{rules}
use Rattle.fixedbitset.proofs.Words.{words_of, are_words-take}
use Rattle.fixedbitset.proofs.views.positions.used_words.Goals as goal

pub returns-clause-value : goal.returns-clause-value
returns-clause-value c =
    words_of _ _ c.requires _ c.div_ceil.ensures (are_words-take _ c.args.words.now (λ k. search rules))
