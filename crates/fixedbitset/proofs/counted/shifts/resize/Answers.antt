use Rattle.std.proofs.Common.{arith}
use Rattle.fixedbitset.proofs.Moves.{resize_shorter, resize_with, resize_without}
use Rattle.fixedbitset.specs.BitsFacts.{facts}
use Rattle.fixedbitset.proofs.counted.shifts.resize.Goals as goal

pub returns-else-enabled-clause-ok : goal.returns-else-enabled-clause-ok
returns-else-enabled-clause-ok c = grind (arith, resize_shorter, resize_with, resize_without, facts)

pub returns-then-enabled-clause-ok : goal.returns-then-enabled-clause-ok
returns-then-enabled-clause-ok c = grind (arith, resize_shorter, resize_with, resize_without, facts)
