use Rattle.std.proofs.Common.{sym}
use Rattle.std.proofs.lemmas.List.{reverse-reverse}
use Rattle.bits_c.proofs.Takes.{gives_same}
use Rattle.bits_c.proofs.handfuls.ReversedWorded.take_words_back.Goals as goal

pub returns : goal.returns
returns g c =
    gives_same _ _ _ _ _ _ _ c.take_words.ensures
    (sym (reverse-reverse (g.G.Giver.left c.args.self.now.giver)))
    (reverse-reverse (g.G.Giver.left c.take_words.new.self))
