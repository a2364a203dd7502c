use Rattle.bitwords.proofs.Left.{ends_bits, ends_middle}
use Rattle.bitwords.proofs.cursors.ends_of.Goals as goal

pub returns-clause-bits : goal.returns-clause-bits
returns-clause-bits g c =
    rw (c.unwrap_or-front.ensures, c.unwrap_or-back.ensures)
    (ends_bits g.M.Middle.words c.args.words c.take_first.new.self c.take_last.new.self c.take_first.result
    c.take_last.result c.take_first.ensures c.take_last.ensures)

pub returns-clause-middle : goal.returns-clause-middle
returns-clause-middle g c =
    ends_middle g.M.Middle.words c.args.words c.take_first.new.self c.take_last.new.self c.take_first.result
    c.take_last.result c.take_first.ensures c.take_last.ensures
