use Rattle.std.proofs.Common.{rules}
use Rattle.bits_c.proofs.copies.bits_difference_of.Goals as goal

pub returns-then-to-set-clause-value : goal.returns-then-to-set-clause-value
returns-then-to-set-clause-value c = search rules steps 300000
