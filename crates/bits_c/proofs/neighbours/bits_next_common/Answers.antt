use Rattle.std.proofs.Common.{rules}
use Rattle.bits_c.proofs.neighbours.bits_next_common.Goals as goal

pub returns : goal.returns
returns c = search rules steps 300000
