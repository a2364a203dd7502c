use Rattle.bitrows.proofs.RowWords.{are_rows-low, are_rows-high, table_of-low, table_of-high}
use Rattle.bitrows.proofs.views.RowsMut.split_rows_mut.Goals as goal

pub invariant_of-first : goal.invariant_of-first
invariant_of-first c =
    record {
      clean =
          rw (c.split_at_mut-low.ensures.front, c.storage_words.ensures)
          (are_rows-low _ _ _ c.args.at c.args.self.words.now c.requires c.args.self.clean);
    }

pub invariant_of-second : goal.invariant_of-second
invariant_of-second c =
    record {
      clean =
          rw (c.split_at_mut-low.ensures.back, c.storage_words.ensures)
          (are_rows-high _ _ _ c.args.at c.args.self.words.now c.requires c.args.self.clean);
    }

pub returns-clause-low : goal.returns-clause-low
returns-clause-low c =
    rw (c.split_at_mut-low.ensures.front, c.storage_words.ensures)
    (table_of-low c.args.self.columns _ c.args.self.rows c.args.at c.args.self.words.now c.requires)

pub returns-clause-high : goal.returns-clause-high
returns-clause-high c =
    rw (c.split_at_mut-low.ensures.back, c.storage_words.ensures)
    (table_of-high c.args.self.columns _ c.args.self.rows c.args.at c.args.self.words.now c.requires)
