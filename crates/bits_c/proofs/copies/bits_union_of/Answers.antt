use Rattle.std.proofs.Common.{rules}
use Rattle.bits_c.proofs.copies.bits_union_of.Goals as goal

pub returns-then-to-max-clause-value : goal.returns-then-to-max-clause-value
returns-then-to-max-clause-value c = search rules steps 300000
