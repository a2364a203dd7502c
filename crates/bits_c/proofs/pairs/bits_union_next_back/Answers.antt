use Rattle.std.proofs.Common.{arith}
use Rattle.std.proofs.lemmas.Grind.{common_steps}
use Rattle.bits_c.proofs.Given.{last_given}
use Rattle.bits_c.proofs.pairs.bits_union_next_back.Goals as goal

pub returns-clause-gives : goal.returns-clause-gives
returns-clause-gives c = grind (arith, common_steps, last_given)
