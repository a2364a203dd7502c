use Rattle.std.proofs.Common.{arith}
use Rattle.std.proofs.lemmas.Grind.{common_steps}
use Rattle.fixedbitset.proofs.Words.{viewed_length}
use Rattle.fixedbitset.proofs.counted.copies.bitxor.Goals as goal

pub returns-else-set-other-clause-exact_if_ok : goal.returns-else-set-other-clause-exact_if_ok
returns-else-set-other-clause-exact_if_ok c = grind (arith, common_steps, viewed_length)
