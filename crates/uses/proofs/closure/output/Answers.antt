use Rattle.std.proofs.Common.{◌≡◌, ℕ, List, Err, sym, subst, arith}
use Rattle.std.specs.Str.Lines.{lines}
use Rattle.std.proofs.lemmas.List.Elements.{All-map}
use Rattle.uses.specs.declared.closure.TheConstants.{LIMIT}
use Rattle.uses.specs.declared.text.Row.{Row}
use Rattle.uses.specs.Edges.{HasEdges, IsEdge}
use Rattle.uses.specs.Faults.{AreAll}
use Rattle.uses.specs.Rows.{AreRowsOf}
use Rattle.uses.proofs.Answered.{numbers_in, has_rows, edges_of, at_ok, at_err, unread, other_than}
use Rattle.uses.proofs.closure.output.Goals as goal

abbrev Wanted : List ℕ → Type 0
Wanted text = (nodes : ℕ) × (edges : List (List ℕ)) × HasEdges LIMIT text nodes edges

pub returns-in_err-rows-clause-fault : goal.returns-in_err-rows-clause-fault
returns-in_err-rows-clause-fault c =
    let told : c.from_residual.result ≡ Err c.in_err-rows.field-0.0 = grind arith in
    rw told (unread c.args.text.now (Wanted c.args.text.now) c.in_err-rows.field-0.0 c.in_err-rows.ensures.fault
    (λ p. p.2.rows.each))

pub returns-clause-printed : goal.returns-clause-printed
returns-clause-printed c =
    let text = c.args.text.now in
    let nodes = c.in_ok-nodes.nodes in
    let others = c.in_ok-nodes.edges.now in
    let are = subst (AreRowsOf (lines text)) (sym c.deref.ensures.value) c.in_ok-rows.ensures.rows in
    let read = has_rows text c.deref.result.now nodes others are c.in_ok-nodes.ensures.found in
    at_ok _ _ (AreAll (IsEdge nodes) others) c.lines_of.result (λ printed prints each. (
      nodes,
      numbers_in others,
      record {
        rows = read;
        within = c.in_ok-nodes.ensures.limit;
        each = All-map (IsEdge nodes) (λ (row : Row). row.numbers.items) others each;
      },
      prints,
    )) c.lines_of.ensures.printed c.lines_of.ensures.each

pub returns-clause-fault : goal.returns-clause-fault
returns-clause-fault c =
    let text = c.args.text.now in
    let nodes = c.in_ok-nodes.nodes in
    let others = c.in_ok-nodes.edges.now in
    let are = subst (AreRowsOf (lines text)) (sym c.deref.ensures.value) c.in_ok-rows.ensures.rows in
    at_err _ _ c.lines_of.result (λ fault is. other_than (IsEdge nodes) others (Wanted text) fault is
    (λ p. edges_of text c.deref.result.now others nodes LIMIT p.0 p.1 are c.in_ok-nodes.ensures.found p.2))
    c.lines_of.ensures.fault
