use Rattle.std.proofs.Common.{arith}
use Rattle.fixedbitset.proofs.views.shifts.tick_unjoined.Goals as goal

pub returns : goal.returns
returns c = omega (arith, c.loop.invariant, c.joined_lanes.ensures, c.joined_lanes-joined.ensures)
