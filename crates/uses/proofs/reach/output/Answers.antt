use Rattle.std.proofs.Common.{◌≡◌, ℕ, List, ◌∷◌, Err, length, subst, arith}
use Rattle.std.specs.Str.Lines.{lines}
use Rattle.uses.specs.Reach.{Graph, HasGraph, AreNodes}
use Rattle.uses.specs.Rows.{AreRowsOf}
use Rattle.uses.proofs.Answered.{unread, other_than, rows_of_graph}
use Rattle.uses.proofs.reach.output.Goals as goal

abbrev Wanted : List ℕ → Type 0
Wanted text = (start : ℕ) × (graph : Graph) × HasGraph text start graph

pub returns-in_err-rows-clause-fault : goal.returns-in_err-rows-clause-fault
returns-in_err-rows-clause-fault c =
    let told : c.from_residual.result ≡ Err c.in_err-rows.field-0.0 = grind arith in
    rw told (unread c.args.text.now (Wanted c.args.text.now) c.in_err-rows.field-0.0 c.in_err-rows.ensures.fault
    (λ p. p.2.rows.each))

pub returns-in_err-graph-clause-fault : goal.returns-in_err-graph-clause-fault
returns-in_err-graph-clause-fault c =
    let text = c.args.text.now in
    let first = c.in-Some.first.now in
    let others = c.in-Some.others.now in
    let parts : c.in_ok-rows.rows.items ≡ first ∷ others = grind arith in
    let are : AreRowsOf (lines text) (first ∷ others) =
    subst (AreRowsOf (lines text)) parts c.in_ok-rows.ensures.rows in
    let told : c.from_residual-in_err-graph.result ≡ Err c.in_err-graph.field-0.0 = grind arith in
    rw told (other_than (AreNodes (length others)) others (Wanted text) c.in_err-graph.field-0.0
    c.in_err-graph.ensures.fault (λ p. rows_of_graph text first others p.0 p.1 are p.2))
