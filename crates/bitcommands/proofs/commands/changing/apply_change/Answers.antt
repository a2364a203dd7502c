use Rattle.bitcommands.proofs.commands.changing.apply_change.Goals as goal

pub returns-in-Extend : goal.returns-in-Extend
returns-in-Extend c = rw c.in-Extend.is (rw c.as_slice.ensures.value at c.extend.ensures)

pub returns-in-Clear : goal.returns-in-Clear
returns-in-Clear c = rw c.in-Clear.is (c.clear.ensures c.args.limit)

pub returns-in-Grow : goal.returns-in-Grow
returns-in-Grow c = rw c.in-Grow.is c.grow.ensures

pub returns-in-GrowAndInsert : goal.returns-in-GrowAndInsert
returns-in-GrowAndInsert c = rw c.in-GrowAndInsert.is c.grow_and_insert.ensures

pub returns-in-Insert : goal.returns-in-Insert
returns-in-Insert c = rw c.in-Insert.is (c.insert.ensures c.args.limit)

pub returns-in-Remove : goal.returns-in-Remove
returns-in-Remove c = rw c.in-Remove.is (c.remove.ensures c.args.limit)

pub returns-in-Toggle : goal.returns-in-Toggle
returns-in-Toggle c = rw c.in-Toggle.is (c.toggle.ensures c.args.limit)

pub returns-in-Put : goal.returns-in-Put
returns-in-Put c = rw c.in-Put.is (c.put.ensures c.args.limit)

pub returns-in-Set : goal.returns-in-Set
returns-in-Set c = rw c.in-Set.is (c.set_to.ensures c.args.limit)

pub returns-in-CopyBit : goal.returns-in-CopyBit
returns-in-CopyBit c = rw c.in-CopyBit.is (c.copy_bit.ensures c.args.limit)

pub returns-in-SetBlock : goal.returns-in-SetBlock
returns-in-SetBlock c = rw c.in-SetBlock.is (c.set_block.ensures c.args.limit)
