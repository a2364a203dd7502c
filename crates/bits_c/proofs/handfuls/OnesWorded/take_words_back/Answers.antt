use Rattle.std.proofs.Common.{reverse, ap, ◌∙◌}
use Rattle.bits_c.proofs.Takes.{gives_same}
use Rattle.bits_c.proofs.handfuls.OnesWorded.take_words_back.Goals as goal

pub returns : goal.returns
returns c =
    gives_same _ _ _ _ _ _ _ c.give_words_back-count.ensures.gives
    (ap reverse (c.into_held-held.ensures.items ∙ c.cursor.ensures))
    (ap reverse (c.of.ensures.left ∙ ap (λ walk. walk.items) c.of_held-rest.ensures))
