use Rattle.std.proofs.Common.{◌≡◌, ◌+◌, ◌-◌, ◌∷◌, IsTrue, All, length, take}
use Rattle.std.specs.Prelude.{sum_by}
use Rattle.fixedbitset.specs.Bits.{contains}
use Rattle.uses.specs.Reach.{size, edges_from}
use Rattle.uses.proofs.EdgeCounts.{degree}
use Rattle.uses.proofs.Walking.{Walking}
use Rattle.uses.proofs.reach.walk.reachable.Given as goal

abbrev pub invariant-turns : goal.invariant-turns
invariant-turns l = record {
  walking : Walking l.graph l.start l.reached l.to_do.items;
  taken : l.turns + length l.to_do.items ≡ l.fn.turns + size l.reached;
  looked : l.looks + sum_by (degree l.graph) l.to_do.items ≡ l.fn.looks + edges_from l.reached 0 l.graph;
}

-- each node is taken once
abbrev pub decreases-turns : goal.decreases-turns
decreases-turns l = l.fn.turns + length l.graph - l.turns

abbrev pub invariant-loop-next : goal.invariant-loop-next
invariant-loop-next l = record {
  walking : Walking l.graph l.start l.reached (l.node ∷ l.to_do.items);
  taken : l.turns + length l.to_do.items ≡ l.fn.turns + size l.reached;
  looked : l.looks + sum_by (degree l.graph) l.to_do.items + length l.next-items
      ≡ l.fn.looks + edges_from l.reached 0 l.graph + l.next-index;
  passed : All (λ b. IsTrue (contains l.reached b)) (take l.next-index l.next-items);
}
