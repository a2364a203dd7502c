use Rattle.std.proofs.Common.{◌≡◌, ◌∙◌, ap, refl}
use Rattle.bitwords.specs.WalkFacts.{walk_forwards, walk_backwards}
use Rattle.fixedbitset.specs.Bits.{words}
use Rattle.fixedbitset.specs.WordsFacts.{words-asc}
use Rattle.bitrows.specs.Tables.{row_of}
use Rattle.bitrows.proofs.table.BitRows.row.Goals as goal

-- the words that the columns need are those of the row
used : (c : goal.After-over) → c.as_slice.result.now ≡ words (row_of c.args.self.now c.args.row)
used c =
    c.as_slice.ensures.value ∙ ap words (c.row.ensures.value ∙ ap (λ t. row_of t c.args.row) c.as_rows.ensures.table)

pub returns-clause-items : goal.returns-clause-items
returns-clause-items c = rw (c.over.ensures, used c) (words-asc _)

pub returns-clause-runs : goal.returns-clause-runs
returns-clause-runs c = walk_forwards _ _ (returns-clause-items c)

pub returns-clause-runs_back : goal.returns-clause-runs_back
returns-clause-runs_back c = walk_backwards _ _ (returns-clause-items c)

pub returns-clause-words : goal.returns-clause-words
returns-clause-words c = rw (c.over.ensures, used c) refl
