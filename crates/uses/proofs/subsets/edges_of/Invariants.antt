use Rattle.std.proofs.Common.{take, All}
use Rattle.uses.specs.Faults.{AreAll}
use Rattle.uses.specs.AutomatonEdges.{IsBetween, IsEdge}
use Rattle.uses.proofs.AutomatonRead.{HasEdges}
use Rattle.uses.proofs.subsets.edges_of.Given as goal

abbrev pub invariant-loop-row : goal.invariant-loop-row
invariant-loop-row l = record {
  edges : HasEdges l.edges.items (take l.row-index l.rows);
  between : All (IsBetween l.states l.letters) l.edges.items;
  each : AreAll (IsEdge l.states l.letters) (take l.row-index l.rows);
}
