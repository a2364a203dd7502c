use Rattle.std.proofs.Common.{take}
use Rattle.uses.specs.Faults.{AreAll}
use Rattle.uses.specs.Commands.{IsCommand}
use Rattle.uses.proofs.slots.carry_out.Given as goal

abbrev pub invariant-loop-row : goal.invariant-loop-row
invariant-loop-row l = AreAll IsCommand (take l.row-index l.rows)
