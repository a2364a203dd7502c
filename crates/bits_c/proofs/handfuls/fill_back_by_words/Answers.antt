use Rattle.bits_c.proofs.Takes.{from_reversed}
use Rattle.bits_c.proofs.handfuls.fill_back_by_words.Goals as goal

pub returns : goal.returns
returns g c =
    let first = c.fill_by_words-count.ensures in
    let last = from_reversed (g.G.Giver.left c.args.giver) _ _ (g.G.Giver.left c.fill_by_words-count.new.giver.giver) _
    (record { answer = first.answer; written = first.written; rest = first.rest }) in
    record { answer = last.answer; written = last.written; rest = last.rest }
