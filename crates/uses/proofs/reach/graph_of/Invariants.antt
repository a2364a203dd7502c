use Rattle.std.proofs.Common.{length, take}
use Rattle.uses.specs.Faults.{AreAll}
use Rattle.uses.specs.Reach.{AreNodes}
use Rattle.uses.proofs.RowsRead.{HasRows}
use Rattle.uses.proofs.reach.graph_of.Given as goal

abbrev pub invariant-loop-row : goal.invariant-loop-row
invariant-loop-row l = record {
  each : AreAll (AreNodes (length l.rows)) (take l.row-index l.rows);
  same : HasRows l.graph.items (take l.row-index l.rows);
}
