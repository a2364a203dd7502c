use Rattle.std.proofs.Common.{◌≡◌, ◌∙◌, ◌+◌, ◌*◌, ◌<◌, ℕ, All, min, length, Bool, true, false}
use Rattle.std.proofs.Common.{refl, sym, ap, arith, rules}
use Rattle.bitwords.specs.CountFacts.{count-zero}
use Rattle.fixedbitset.specs.Bits.{storage_words}
use Rattle.fixedbitset.specs.TwoSets.{union}
use Rattle.bitrows.specs.Tables.{Table, row_of, has, with_row}
use Rattle.bitrows.specs.StoredFacts.{length-table, columns-table}
use Rattle.bitrows.specs.Views.{held}
use Rattle.bitrows.specs.declared.views.RowsMut.{RowsMut}
use Rattle.bitrows.proofs.RowWords.{viewed_all}
use Rattle.bitrows.proofs.Closing.{through, passed_joined, passed_kept, passed_all, closed}
use Rattle.bitrows.proofs.Closing.{joins_in, joins_before, joins_more, joins_passed, joins_bound, pairs}
use Rattle.bitrows.proofs.views.RowsMut.close.Goals.{then-get, else-get}
use Rattle.bitrows.proofs.views.RowsMut.close.Goals as goal

pub loop-row-init : goal.loop-row-init
loop-row-init c = search (rules, arith, count-zero)

pub loop-row-preserved : goal.loop-row-preserved
loop-row-preserved c =
    let edge : ℕ → ℕ → Bool = has (held c.args.self.now) in
    let k = c.loop-through.through in
    let r = c.loop-row.row in
    let t : Table = held c.loop-row.self in
    let new : Table = held c.if-get.self in
    let before = c.loop-row.invariant in
    let got : c.get.result ≡ has t r k = c.get.ensures ∙ ap (λ u. has u r k) c.as_rows.ensures.table in
    let known : through edge k r k ≡ c.get.result = sym (before.bits.due r k (omega arith)) ∙ sym got in
    let within : r < length t.rows = omega (arith, c.loop-row-test.true, before.same.rows, length-table) in
    elim c.if-get.branch [
      | then-get w ↦
          let became = w.union_rows.ensures.table in
          let value : new ≡ with_row t r (union (row_of t r) (row_of t k)) = ap held w.self-is ∙ became.table in
          let bits = passed_joined edge k r t before.bits new within (sym got ∙ w.if-get.true) value in
          record {
            same =
                rw w.self-is (record {
                  table = refl;
                  rows = became.rows ∙ before.same.rows;
                  columns = became.columns ∙ before.same.columns;
                  same = became.same ∙ before.same.same;
                });
            bits = bits;
            joins = omega
                (arith, before.joins, joins_more edge k r true (known ∙ w.if-get.true), w.joins-is, w.tick.ensures);
          }
      | else-get w ↦
          record {
            same = rw w.self-is before.same;
            bits = passed_kept edge k r t before.bits new (sym got ∙ w.if-get.false) (ap held w.self-is);
            joins = omega (arith, before.joins, joins_more edge k r false (known ∙ w.if-get.false), w.joins-is);
          }
    ]

pub loop-through-preserved : goal.loop-through-preserved
loop-through-preserved c =
    let edge : ℕ → ℕ → Bool = has (held c.args.self.now) in
    let k = c.loop-through.through in
    let here = c.loop-row.invariant in
    let all : c.loop-row.row ≡ c.args.self.now.rows =
    omega (arith, c.loop-row-test.false, c.loop-row.auto.row-end, c.loop-through.invariant.same.rows) in
    record {
      same = here.same;
      bits = passed_all edge k c.loop-row.row (held c.loop-row.self) here.bits
          (omega (arith, all, here.same.rows, length-table));
      joins = here.joins
          ∙ ap (λ n. c.args.joins.now + n) (ap (λ n. joins_before edge c.args.self.now.rows k + joins_in edge k n) all
          ∙ sym (joins_passed edge c.args.self.now.rows k));
    }

all_nodes : (c : goal.After-loop-through) → c.loop-through.through ≡ min c.args.self.now.rows c.args.self.now.columns
all_nodes c = omega (arith, c.loop-through-test.false, c.loop-through.auto.through-end)

-- the nodes of the passes are those with a row and a column
least : (c : goal.After-loop-through) → c.loop-through.through
    ≡ min (length (held c.args.self.now).rows) (held c.args.self.now).columns
least c = rw (length-table, columns-table) (all_nodes c)

sized : (view : RowsMut) → All (λ row. row.length ≡ (held view).columns) (held view).rows
sized view = rw columns-table
    (viewed_all view.columns (storage_words view.columns) view.rows view.words.now (held view) refl)

pub returns-clause-closed : goal.returns-clause-closed
returns-clause-closed c =
    closed (held c.args.self.now) (held c.loop-through.self) c.loop-through.through (least c) (sized c.args.self.now)
    c.loop-through.invariant.bits

pub returns-clause-cost : goal.returns-clause-cost
returns-clause-cost c =
    let first : Table = held c.args.self.now in
    let rows = c.args.self.now.rows in (
      joins_before (has first) rows c.loop-through.through,
      pairs first rows c.loop-through.through (rw columns-table (all_nodes c)) (sized c.args.self.now),
      c.loop-through.invariant.joins,
    )

pub returns-clause-bound : goal.returns-clause-bound
returns-clause-bound c =
    let rows = c.args.self.now.rows in
    let bound = joins_bound (has (held c.args.self.now)) rows c.loop-through.through in
    omega (arith, c.loop-through.invariant.joins, bound, ap (λ k. rows * k) (all_nodes c))
