use Rattle.std.proofs.Common.{arith}
use Rattle.bits_c.proofs.Ranked.{lent_rank}
use Rattle.bits_c.proofs.ranks.bits_rank.Goals as goal

pub returns : goal.returns
returns c = grind (arith, lent_rank)
