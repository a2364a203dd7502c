use Rattle.std.proofs.lemmas.List.{reverse-append}
use Rattle.bits_c.proofs.Takes.{from_reversed}
use Rattle.bits_c.proofs.handfuls.fill_both_back.Goals as goal

pub returns : goal.returns
returns g c =
    let old = reverse-append (g.A.Giver.left c.args.first) (g.B.Giver.left c.args.second) in
    let new = reverse-append (g.A.Giver.left c.fill_both-count.new.second.giver)
    (g.B.Giver.left c.fill_both-count.new.first.giver) in
    from_reversed _ _ _ _ _ (rw (old, new) c.fill_both-count.ensures)
