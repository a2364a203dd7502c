use Rattle.std.proofs.Common.{subst, sym, refl}
use Rattle.std.proofs.lemmas.List.Elements.{All-push}
use Rattle.uses.specs.FaultFacts.{row_more, other_row}
use Rattle.uses.specs.AutomatonEdges.{IsBetween, IsEdge}
use Rattle.uses.proofs.AutomatonRead.{edges_more}
use Rattle.uses.proofs.subsets.edges_of.Goals as goal

pub loop-row-preserved : goal.loop-row-preserved
loop-row-preserved c =
    let rows = c.args.rows.now in
    let i = c.loop-row.row-index in
    let row = c.row-item.result in
    let before = c.loop-row.invariant in
    let told = rw c.deref.ensures.value at c.in-Some.ensures in
    record {
      edges =
          rw c.in_ok-push.ensures.items (edges_more rows i row c.loop-row.edges.items c.in-Some.edge
          c.loop-row-test.true c.row-item.is told.1 before.edges);
      between =
          rw c.in_ok-push.ensures.items (All-push (IsBetween c.args.states c.args.letters) c.loop-row.edges.items
          c.in-Some.edge before.between told.0);
      each = row_more (IsEdge c.args.states c.args.letters) rows i row c.loop-row-test.true c.row-item.is before.each
          (subst (IsEdge c.args.states c.args.letters) (sym told.1) (refl, told.0));
    }

pub returns-in_default-clause-fault : goal.returns-in_default-clause-fault
returns-in_default-clause-fault c =
    other_row (IsEdge c.args.states c.args.letters) c.args.rows.now c.loop-row.row-index c.row-item.result
    c.loop-row-test.true c.row-item.is c.loop-row.invariant.each
    (rw c.in_default.is at (rw c.deref.ensures.value at c.edge_of.ensures))
