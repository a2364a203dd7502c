use Rattle.std.proofs.Common.{◌≡◌, ◌∙◌, ◌<◌, ◌↔◌, inl, inr, ℕ, true, List}
use Rattle.std.proofs.Common.{IsTrue, length, sym, ap, subst, arith, ⊎_elim}
use Rattle.std.specs.Prelude.{All, slice_index}
use Rattle.std.proofs.lemmas.Bool.{true≢false}
use Rattle.std.proofs.lemmas.List.{take_all, length-replicate}
use Rattle.uses.specs.FaultFacts.{no_row, row_more, each_row, other_row}
use Rattle.fixedbitset.specs.Bits.{Bits, empty}
use Rattle.bitrows.specs.Tables.{Table, has, blank, set_at}
use Rattle.bitrows.specs.TableFacts.{has-blank, sized-blank, sized-set_at, length-with_row, in_set}
use Rattle.uses.specs.Edges.{IsEdge, HasEdge}
use Rattle.uses.proofs.EdgesRead.{edges_more}
use Rattle.uses.proofs.closure.graph.table_of.Goals as goal

pub loop-row-init : goal.loop-row-init
loop-row-init c =
    let n = c.args.nodes in
    let first : c.in_ok-table.table ≡ blank n n = c.in_ok-table.ensures in
    record {
      rows = ap (λ (t : Table). length t.rows) first ∙ length-replicate n (empty n);
      columns = ap (λ (t : Table). t.columns) first;
      sized = subst (λ (t : Table). All (λ (v : Bits). v.length ≡ t.columns) t.rows) (sym first) (sized-blank n n);
      edges = λ a b. (
        λ one. absurd (true≢false (sym one ∙ ap (λ (t : Table). has t a b) first ∙ has-blank n n a b)),
        λ there. absurd (let none = there.1 in omega arith),
      );
      each = no_row (IsEdge n) c.args.rows.now 0;
    }

pub returns-in_default-clause-fault : goal.returns-in_default-clause-fault
returns-in_default-clause-fault c =
    other_row (IsEdge c.args.nodes) c.args.rows.now c.loop-row.row-index c.row-item.result c.loop-row-test.true
    c.row-item.is c.loop-row.invariant.each
    (rw c.in_default.is at (rw c.deref.ensures.value at c.edge_of.ensures))

pub loop-row-preserved : goal.loop-row-preserved
loop-row-preserved c =
    let n = c.args.nodes in
    let rows = c.args.rows.now in
    let i = c.loop-row.row-index in
    let row = c.row-item.result in
    let t : Table = c.loop-row.table in
    let from = c.in-Some.from in
    let to = c.in-Some.to in
    let before = c.loop-row.invariant in
    let told = rw c.deref.ensures.value at c.in-Some.ensures in
    let from_below : from < n = subst (λ (l : List ℕ). slice_index l 0 < n) told.1 told.0.1 in
    let to_below : to < n = subst (λ (l : List ℕ). slice_index l 1 < n) told.1 told.0.2 in
    let within : from < length t.rows = omega (arith, before.rows) in
    let below : to < t.columns = omega (arith, before.columns) in
    let value : c.set.new.self ≡ set_at t from to true = c.set.ensures in
    record {
      rows = ap (λ (u : Table). length u.rows) value ∙ length-with_row t from _ ∙ before.rows;
      columns = ap (λ (u : Table). u.columns) value ∙ before.columns;
      sized =
          subst (λ (u : Table).
          All (λ (v : Bits).
          v.length ≡ u.columns) u.rows) (sym value) (sized-set_at t from to true within before.sized);
      edges = λ a b.
          let bits = in_set t from to within below before.sized a b in
          let lines = edges_more rows i row c.loop-row-test.true c.row-item.is from to told.1 a b in (
            λ one.
                lines.1 (⊎_elim (λ old. inl ((before.edges a b).0 old)) (λ new. inr new)
                (bits.0 (subst (λ (u : Table). IsTrue (has u a b)) value one))),
            λ there.
                subst (λ (u : Table).
                IsTrue (has u a b)) (sym value)
                (bits.1 (⊎_elim (λ old. inl ((before.edges a b).1 old)) (λ new. inr new) (lines.0 there))),
          );
      each = row_more (IsEdge n) rows i row c.loop-row-test.true c.row-item.is before.each told.0;
    }

pub returns-clause-edges : goal.returns-clause-edges
returns-clause-edges c =
    subst (λ rows. (a b : ℕ) → IsTrue (has c.loop-row.table a b) ↔ HasEdge rows a b)
    (take_all c.loop-row.row-index c.args.rows.now c.loop-row-test.false) c.loop-row.invariant.edges

pub returns-clause-each : goal.returns-clause-each
returns-clause-each c =
    each_row (IsEdge c.args.nodes) c.args.rows.now c.loop-row.row-index c.loop-row-test.false c.loop-row.invariant.each
