use Rattle.bitcommands.proofs.commands.looking.apply_look.Goals as goal

pub returns-in-Len : goal.returns-in-Len
returns-in-Len c = rw c.in-Len.is (c.len.ensures c.args.limit)

pub returns-in-IsEmpty : goal.returns-in-IsEmpty
returns-in-IsEmpty c = rw c.in-IsEmpty.is (c.is_empty.ensures c.args.limit)

pub returns-in-IsClear : goal.returns-in-IsClear
returns-in-IsClear c = rw c.in-IsClear.is (c.is_clear.ensures c.args.limit)

pub returns-in-IsFull : goal.returns-in-IsFull
returns-in-IsFull c = rw c.in-IsFull.is (c.is_full.ensures c.args.limit)

pub returns-in-Minimum : goal.returns-in-Minimum
returns-in-Minimum c = rw c.in-Minimum.is (c.minimum.ensures c.args.limit)

pub returns-in-Maximum : goal.returns-in-Maximum
returns-in-Maximum c = rw c.in-Maximum.is (c.maximum.ensures c.args.limit)

pub returns-in-AsSlice : goal.returns-in-AsSlice
returns-in-AsSlice c = rw c.in-AsSlice.is (c.as_slice.ensures c.args.limit)

pub returns-in-Contains : goal.returns-in-Contains
returns-in-Contains c = rw c.in-Contains.is (c.contains.ensures c.args.limit)

pub returns-in-Index : goal.returns-in-Index
returns-in-Index c = rw c.in-Index.is (c.index.ensures c.args.limit)

pub returns-in-Text : goal.returns-in-Text
returns-in-Text c = rw c.in-Text.is (c.text.ensures c.args.limit)

pub returns-in-ToValue : goal.returns-in-ToValue
returns-in-ToValue c = rw c.in-ToValue.is (c.to_value.ensures c.args.limit)
