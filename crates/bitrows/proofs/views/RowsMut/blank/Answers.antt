use Rattle.std.proofs.Common.{refl}
use Rattle.bitrows.proofs.RowWords.{are_rows-zeros, table_of-zeros}
use Rattle.bitrows.proofs.views.RowsMut.blank.Goals as goal

pub invariant_of-result : goal.invariant_of-result
invariant_of-result c =
    record {
      clean =
          rw (c.zero.ensures.words, c.requires)
          (are_rows-zeros c.args.columns _ c.args.rows c.ranges.columns.fits refl);
    }

pub returns-clause-table : goal.returns-clause-table
returns-clause-table c =
    rw (c.zero.ensures.words, c.requires) (table_of-zeros c.args.columns _ c.args.rows c.ranges.columns.fits refl)
