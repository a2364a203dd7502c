use Rattle.std.proofs.Common.{rules}
use Rattle.bits_c.proofs.shifts.bits_slice.Goals as goal

pub returns-else-start-end-clause-answer : goal.returns-else-start-end-clause-answer
returns-else-start-end-clause-answer c = search rules steps 300000

pub returns-then-part-end-clause-value : goal.returns-then-part-end-clause-value
returns-then-part-end-clause-value c = search rules steps 800000
