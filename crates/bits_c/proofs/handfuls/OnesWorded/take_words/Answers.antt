use Rattle.std.proofs.Common.{ap, ◌∙◌}
use Rattle.bits_c.proofs.Takes.{gives_same}
use Rattle.bits_c.proofs.handfuls.OnesWorded.take_words.Goals as goal

pub returns : goal.returns
returns c =
    gives_same _ _ _ _ _ _ _ c.give_words-count.ensures.gives (c.into_held-held.ensures.items ∙ c.cursor.ensures)
    (c.of.ensures.left ∙ ap (λ walk. walk.items) c.of_held.ensures)
