use Rattle.std.proofs.Common.{◌≡◌, ℕ, List, Contains, length, sym, subst}
use Rattle.std.specs.List.{AllPairs}
use Rattle.bitrows.specs.Tables.{Table}
use Rattle.bitrows.specs.TableFacts.{has_row}
use Rattle.bitrows.specs.Paths as paths
use Rattle.bitrows.specs.PathFacts.{connected_through}
use Rattle.uses.specs.Edges.{HasEdge, IsBefore, pairs_in}
use Rattle.uses.proofs.Pairs.{in_pairs, ordered}
use Rattle.uses.proofs.closure.graph.closure.Goals as goal

pub returns-clause-joined : goal.returns-clause-joined
returns-clause-joined c =
    let t : Table = c.in_ok-table.table in
    let new : Table = c.close.new.self in
    let rows = c.args.rows.now in
    let items : c.in_ok-pairs_of.field-0.items ≡ pairs_in new (length new.rows) = c.in_ok-pairs_of.ensures in
    λ a b.
    let listed = in_pairs new (length new.rows) a b in
    let closed = c.close.ensures.closed a b in (
      λ there. connected_through (paths.HasEdge t) (HasEdge rows) (λ x y edge. (c.in_ok-table.ensures.edges x y).0 edge)
          a b (closed.0 (listed.0 (subst (λ (l : List (ℕ × ℕ)). Contains l (a, b)) items there)).1),
      λ path.
          let one =
          closed.1 (connected_through (HasEdge rows) (paths.HasEdge t)
          (λ x y edge. (c.in_ok-table.ensures.edges x y).1 edge) a b path) in
          subst (λ (l : List (ℕ × ℕ)). Contains l (a, b)) (sym items) (listed.1 (has_row new a b one, one)),
    )

pub returns-clause-ascending : goal.returns-clause-ascending
returns-clause-ascending c =
    let new : Table = c.close.new.self in
    let items : c.in_ok-pairs_of.field-0.items ≡ pairs_in new (length new.rows) = c.in_ok-pairs_of.ensures in
    subst (AllPairs IsBefore) (sym items) (ordered new (length new.rows))
