use Rattle.bits_c.proofs.Sets.{none_past}
use Rattle.std.proofs.Common.{rules}
use Rattle.bits_c.proofs.bits_take.Goals as goal

pub returns-then-bit-set-clause-answer : goal.returns-then-bit-set-clause-answer
returns-then-bit-set-clause-answer c = search (rules, none_past) steps 300000
