use Rattle.std.proofs.Common.{rules, ◌∙◌, length, sym, subst}
use Rattle.std.proofs.lemmas.List.{take_all}
use Rattle.std.proofs.lemmas.Bool.{true≢false}
use Rattle.uses.specs.FaultFacts.{row_more, each_row, other_row}
use Rattle.uses.specs.Reach.{AreNodes}
use Rattle.uses.proofs.RowsRead.{HasRows, has_rows_more, is_graph}
use Rattle.uses.proofs.reach.graph_of.Goals as goal

pub loop-row-preserved : goal.loop-row-preserved
loop-row-preserved c =
    let rows = c.args.rows.now in
    let i = c.loop-row.row-index in
    let row = c.row-item.result in
    record {
      each = row_more (AreNodes (length rows)) rows i row c.loop-row-test.true c.row-item.is c.loop-row.invariant.each
          (subst (AreNodes (length rows)) c.deref.ensures.value (c.are_nodes.ensures.0 c.if-not-are_nodes.false));
      same =
          rw c.in_ok-push.ensures.items (has_rows_more rows i row c.loop-row.graph.items _ c.loop-row-test.true
          c.row-item.is (search rules) c.loop-row.invariant.same);
    }

pub returns-clause-graph : goal.returns-clause-graph
returns-clause-graph c =
    let rows = c.args.rows.now in
    let i = c.loop-row.row-index in
    is_graph rows c.loop-row.graph.items (subst (HasRows c.loop-row.graph.items) (take_all i rows c.loop-row-test.false)
    c.loop-row.invariant.same)
    (each_row (AreNodes (length rows)) rows i c.loop-row-test.false c.loop-row.invariant.each)

pub returns-then-not-are_nodes-clause-fault : goal.returns-then-not-are_nodes-clause-fault
returns-then-not-are_nodes-clause-fault c =
    let rows = c.args.rows.now in
    other_row (AreNodes (length rows)) rows c.loop-row.row-index c.row-item.result c.loop-row-test.true c.row-item.is
    c.loop-row.invariant.each
    (λ all. true≢false (sym (c.are_nodes.ensures.1 (subst (AreNodes (length rows)) (sym c.deref.ensures.value) all))
    ∙ c.if-not-are_nodes.true))
