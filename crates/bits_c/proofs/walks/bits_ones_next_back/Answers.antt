use Rattle.std.proofs.Common.{arith}
use Rattle.bits_c.proofs.Given.{last_given}
use Rattle.bits_c.proofs.walks.bits_ones_next_back.Goals as goal

pub returns-clause-gives : goal.returns-clause-gives
returns-clause-gives c = grind (arith, last_given)
