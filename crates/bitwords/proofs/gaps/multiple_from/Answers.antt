use Rattle.bitwords.proofs.Multiples.{rounded_up}
use Rattle.bitwords.proofs.gaps.multiple_from.Goals as goal

pub returns-else-number-eq0 : goal.returns-else-number-eq0
returns-else-number-eq0 c =
    rounded_up c.args.align c.args.number c.checked_next_multiple_of.result c.if-number-eq0.false
    c.checked_next_multiple_of.ensures
