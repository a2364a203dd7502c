use Rattle.std.proofs.Common.{arith}
use Rattle.bits_c.proofs.Given.{first_given}
use Rattle.bits_c.proofs.sieves.bits_intersection_next.Goals as goal

pub returns-clause-gives : goal.returns-clause-gives
returns-clause-gives c = grind (arith, first_given)
