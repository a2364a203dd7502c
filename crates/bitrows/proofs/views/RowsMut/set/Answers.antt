use Rattle.std.proofs.Common.{refl, arith}
use Rattle.fixedbitset.specs.Bits.{empty, storage_words}
use Rattle.bitrows.proofs.RowWords.{row_end, row_is, row_written, are_rows-put, table_of-put, get_or-table}
use Rattle.bitrows.proofs.views.RowsMut.set.Goals as goal

pub overflow_mul-start : goal.overflow_mul-start
overflow_mul-start c =
    record { fits = omega (arith, row_end c.args.self.now.clean c.storage_words-wide.ensures c.requires.row) }

pub overflow_add-end : goal.overflow_add-end
overflow_add-end c =
    record { fits = omega (arith, row_end c.args.self.now.clean c.storage_words-wide.ensures c.requires.row) }

pub slice_bounds-set_in-end : goal.slice_bounds-set_in-end
slice_bounds-set_in-end c = omega (arith, row_end c.args.self.now.clean c.storage_words-wide.ensures c.requires.row)

pub set_in-requires-clause-clean : goal.set_in-requires-clause-clean
set_in-requires-clause-clean c =
    rw (row_is c.args.row _ _ c.args.self.now.words.now c.storage_words-wide.ensures)
    (c.args.self.now.clean.each c.args.row c.requires.row)

pub invariant_of-self : goal.invariant_of-self
invariant_of-self c =
    record {
      clean =
          rw (row_written _ c.args.row _ c.args.self.now.words.now c.set_in.new.words c.storage_words-wide.ensures)
          (are_rows-put _ _ _ _ _ _ c.args.self.now.clean c.requires.row c.set_in.ensures.clean);
    }

pub returns : goal.returns
returns c =
    let n = c.args.self.now.columns in
    let w = storage_words n in
    let ws = c.args.self.now.words.now in
    record {
      table = rw (
        row_written w c.args.row c.storage_words-wide.result ws c.set_in.new.words c.storage_words-wide.ensures,
        table_of-put n w c.args.self.now.rows ws c.args.row c.set_in.new.words c.args.self.now.clean c.requires.row
            c.set_in.ensures.clean,
        c.set_in.ensures.value,
        row_is c.args.row _ _ ws c.storage_words-wide.ensures,
        get_or-table n w c.args.self.now.rows ws c.args.row (empty 0) c.requires.row,
      ) refl;
      rows = refl;
      columns = refl;
      same = refl;
    }
