use Rattle.std.proofs.Common.{◌≡◌, ◌∙◌, ◌++◌, map, sym, arith}
use Rattle.std.proofs.lemmas.Grind.{common_steps}
use Rattle.fixedbitset.specs.Bits.{asc}
use Rattle.bitrows.specs.Tables.{row_of}
use Rattle.uses.proofs.Pairs.{pairs_more}
use Rattle.uses.proofs.closure.graph.pairs_of.Goals as goal

pub loop-column-init : goal.loop-column-init
loop-column-init c =
    let before = c.loop-row.invariant in
    let walk = c.into_iter-column-iterator.ensures.into_iter_gives in
    let items : c.into_iter-column-iterator.result.items ≡ asc (row_of c.args.table.now c.loop-row.row) =
    (λ i. (walk i).items) ∙ c.row-column-items.ensures.items in
    (λ i. before i ++ map (λ b. (c.loop-row.row, b)) (items i)) ∙ sym (pairs_more c.args.table.now c.loop-row.row)

pub loop-column-preserved : goal.loop-column-preserved
loop-column-preserved c = grind (arith, common_steps)
