use Rattle.std.proofs.Common.{ℕ, arith, length-take}
use Rattle.bitwords.specs.Rows.{bit_test}
use Rattle.bitwalks.proofs.Running.{has_bit-take}
use Rattle.bitwalks.proofs.runs.next_like.Goals as goal

pub returns-then-are_set : goal.returns-then-are_set
unfolding bit_test
returns-then-are_set c = grind (arith, length-take {A = ℕ}, has_bit-take c.div_ceil.result c.args.words.now)

pub returns-else-are_set : goal.returns-else-are_set
unfolding bit_test
returns-else-are_set c = grind (arith, length-take {A = ℕ}, has_bit-take c.div_ceil.result c.args.words.now)
