use Rattle.std.proofs.Common.{rules}
use Rattle.bits_c.proofs.copies.bits_intersection_of.Goals as goal

pub returns-then-to-min-clause-value : goal.returns-then-to-min-clause-value
returns-then-to-min-clause-value c = search rules steps 300000
