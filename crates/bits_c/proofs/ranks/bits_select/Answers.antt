use Rattle.std.proofs.Common.{arith}
use Rattle.bits_c.proofs.Ranked.{lent_select}
use Rattle.bits_c.proofs.ranks.bits_select.Goals as goal

pub returns : goal.returns
returns c = grind (arith, lent_select)
