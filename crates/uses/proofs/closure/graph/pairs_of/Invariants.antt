use Rattle.std.proofs.Common.{◌≡◌, ◌+◌, ◌++◌, map}
use Rattle.uses.specs.Edges.{pairs_in}
use Rattle.uses.proofs.closure.graph.pairs_of.Given as goal

abbrev pub invariant-loop-row : goal.invariant-loop-row
invariant-loop-row l = l.pairs.items ≡ pairs_in l.table l.row

abbrev pub invariant-loop-column : goal.invariant-loop-column
invariant-loop-column l =
    l.pairs.items ++ map (λ column. (l.row, column)) l.column-iterator.items ≡ pairs_in l.table (l.row + 1)
