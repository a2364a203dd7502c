use Rattle.std.proofs.Common.{arith}
use Rattle.std.proofs.lemmas.Grind.{common_steps}
use Rattle.fixedbitset.proofs.Words.{viewed_length}
use Rattle.fixedbitset.proofs.counted.copies.bitor.Goals as goal

pub returns-then-set-other-clause-exact_if_ok : goal.returns-then-set-other-clause-exact_if_ok
returns-then-set-other-clause-exact_if_ok c = grind (arith, common_steps, viewed_length)
