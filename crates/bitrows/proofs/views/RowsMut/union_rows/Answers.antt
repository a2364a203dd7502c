use Rattle.std.proofs.Common.{refl}
use Rattle.fixedbitset.specs.Bits.{empty}
use Rattle.bitrows.specs.Tables.{row_of}
use Rattle.bitrows.specs.Views.{held}
use Rattle.bitrows.proofs.RowWords.{are_rows-put, table_of-put, get_or-table, row_kept, none_came}
use Rattle.bitrows.proofs.views.RowsMut.union_rows.Goals as goal

pub returns-then-from-into-clause-table : goal.returns-then-from-into-clause-table
returns-then-from-into-clause-table c =
    record {
      table = rw c.if-from-into.true (row_kept (held c.args.self.now) c.args.into);
      rows = refl;
      columns = refl;
      same = refl;
    }

pub returns-then-from-into-clause-changed : goal.returns-then-from-into-clause-changed
returns-then-from-into-clause-changed c = rw c.if-from-into.true (none_came (row_of (held c.args.self.now) c.args.into))

pub join_rows-requires-clause-rows : goal.join_rows-requires-clause-rows
join_rows-requires-clause-rows c = rw c.storage_words-wide.ensures c.args.self.now.clean

pub returns-clause-table : goal.returns-clause-table
returns-clause-table c =
    let done = rw c.storage_words-wide.ensures at c.join_rows.ensures in
    record {
      table = rw (
        done.words,
        table_of-put _ _ _ c.args.self.now.words.now c.args.into done.row c.args.self.now.clean c.requires.into
            done.clean,
        done.value,
        get_or-table c.args.self.now.columns _ c.args.self.now.rows c.args.self.now.words.now c.args.into (empty 0)
            c.requires.into,
        get_or-table c.args.self.now.columns _ c.args.self.now.rows c.args.self.now.words.now c.args.from (empty 0)
            c.requires.from,
      ) refl;
      rows = refl;
      columns = refl;
      same = refl;
    }

pub returns-clause-changed : goal.returns-clause-changed
returns-clause-changed c =
    rw (
      get_or-table c.args.self.now.columns _ c.args.self.now.rows c.args.self.now.words.now c.args.into (empty 0)
          c.requires.into,
      get_or-table c.args.self.now.columns _ c.args.self.now.rows c.args.self.now.words.now c.args.from (empty 0)
          c.requires.from,
    ) (rw c.storage_words-wide.ensures at c.join_rows.ensures).answer

pub invariant_of-self : goal.invariant_of-self
invariant_of-self c =
    let done = rw c.storage_words-wide.ensures at c.join_rows.ensures in
    record { clean = rw done.words (are_rows-put _ _ _ _ _ done.row c.args.self.now.clean c.requires.into done.clean) }
