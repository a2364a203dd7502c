use Rattle.std.proofs.Common.{take}
use Rattle.uses.specs.Faults.{AreAll}
use Rattle.uses.specs.AccessLines.{IsQuestion}
use Rattle.uses.proofs.access.answers_of.Given as goal

abbrev pub invariant-loop-row : goal.invariant-loop-row
invariant-loop-row l = AreAll IsQuestion (take l.row-index l.rows)
