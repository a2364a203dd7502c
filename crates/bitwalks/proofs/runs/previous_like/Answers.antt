use Rattle.std.proofs.Common.{arith}
use Rattle.bitwords.specs.Rows.{bit_test}
use Rattle.bitwalks.proofs.runs.previous_like.Goals as goal

pub returns-else-are_set-clause-found : goal.returns-else-are_set-clause-found
unfolding bit_test
returns-else-are_set-clause-found c = grind arith

pub returns-else-are_set-clause-none : goal.returns-else-are_set-clause-none
unfolding bit_test
returns-else-are_set-clause-none c = grind arith
