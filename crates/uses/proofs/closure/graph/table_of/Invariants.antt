use Rattle.std.proofs.Common.{◌≡◌, ◌↔◌, IsTrue, ℕ, length, take}
use Rattle.std.specs.Prelude.{All}
use Rattle.uses.specs.Faults.{AreAll}
use Rattle.fixedbitset.specs.Bits.{Bits}
use Rattle.bitrows.specs.Tables.{has}
use Rattle.uses.specs.Edges.{IsEdge, HasEdge}
use Rattle.uses.proofs.closure.graph.table_of.Given as goal

abbrev pub invariant-loop-row : goal.invariant-loop-row
invariant-loop-row l = record {
  rows : length l.table.rows ≡ l.nodes;
  columns : l.table.columns ≡ l.nodes;
  sized : All (λ (v : Bits). v.length ≡ l.table.columns) l.table.rows;
  edges : (a b : ℕ) → IsTrue (has l.table a b) ↔ HasEdge (take l.row-index l.rows) a b;
  each : AreAll (IsEdge l.nodes) (take l.row-index l.rows);
}
