use Rattle.std.proofs.Common.{ap, ◌∙◌}
use Rattle.bitrows.specs.Tables.{rows_before, rows_from}
use Rattle.bitrows.proofs.RowWords.{only_clean, only_value, rows_after}
use Rattle.bitrows.proofs.views.RowsMut.split_row_mut.Goals as goal

pub invariant_of-row : goal.invariant_of-row
invariant_of-row c =
    let one = c.split_rows_mut-one.result.0 in
    record { clean = only_clean _ _ _ one.words.now c.split_rows_mut-one.ensures.rows.0 one.clean.long one.clean }

pub returns-clause-value : goal.returns-clause-value
returns-clause-value c =
    let one = c.split_rows_mut-one.result.0 in
    only_value _ _ _ one.words.now c.split_rows_mut-one.ensures.rows.0 one.clean.long _ c.args.row
    (c.split_rows_mut-one.ensures.low ∙ ap (λ t. rows_before t 1) c.split_rows_mut-low.ensures.high)

pub returns-clause-high : goal.returns-clause-high
returns-clause-high c =
    c.split_rows_mut-one.ensures.high
    ∙ ap (λ t. rows_from t 1) c.split_rows_mut-low.ensures.high
    ∙ rows_after _ c.args.row
