use Rattle.std.proofs.Common.{◌≡◌, ◌+◌, ◌*◌, take, ap}
use Rattle.std.specs.Prelude.{slice_range}
use Rattle.bitrows.specs.Stored.{row_words}
use Rattle.bitrows.proofs.RowWords.{row_within, row_of_low}
use Rattle.bitrows.proofs.views.changes.join_rows.Goals as goal

pub returns-then-from-into : goal.returns-then-from-into
returns-then-from-into c =
    let w = c.args.width in
    let ws = c.args.words.now in
    let cut = c.split_at_mut-low.ensures in
    let other : slice_range c.split_at_mut-low.result.0.now (c.args.from * w) (c.args.from * w + w)
    ≡ row_words w ws c.args.from =
    rw cut.front
    (row_of_low w c.args.from (c.args.into * w) ws (row_within c.args.from c.args.into w c.if-from-into.true))
    in
    let own : take w c.split_at_mut-low.result.1.now ≡ row_words w ws c.args.into = ap (take w) cut.back in
    record {
      row = c.take_in.new.words;
      words = cc (cut.front, cut.back);
      clean = c.take_in.ensures.clean;
      value = cc (c.take_in.ensures.value, own, other);
      answer = cc (c.take_in.ensures.changed, own, other);
    }
