use Rattle.bitcommands.proofs.commands.making.apply_make.Goals as goal

pub returns-in-WithCapacityAndBlocks : goal.returns-in-WithCapacityAndBlocks
returns-in-WithCapacityAndBlocks c =
    rw c.in-WithCapacityAndBlocks.is (rw c.as_slice.ensures.value at c.with_capacity_and_blocks.ensures)

pub returns-in-FromIter : goal.returns-in-FromIter
returns-in-FromIter c = rw c.in-FromIter.is (rw c.as_slice-in-FromIter.ensures.value at c.from_iter.ensures)

pub returns-in-Bitand : goal.returns-in-Bitand
returns-in-Bitand c = rw c.in-Bitand.is (c.bitand.ensures c.args.limit)

pub returns-in-Bitor : goal.returns-in-Bitor
returns-in-Bitor c = rw c.in-Bitor.is (c.bitor.ensures c.args.limit)

pub returns-in-Bitxor : goal.returns-in-Bitxor
returns-in-Bitxor c = rw c.in-Bitxor.is (c.bitxor.ensures c.args.limit)

pub returns-in-Clone : goal.returns-in-Clone
returns-in-Clone c = rw c.in-Clone.is (c.clone.ensures c.args.limit)

pub returns-in-CloneFrom : goal.returns-in-CloneFrom
returns-in-CloneFrom c = rw c.in-CloneFrom.is (c.clone_from.ensures c.args.limit)

pub returns-in-New : goal.returns-in-New
returns-in-New c = rw c.in-New.is (c.new.ensures c.args.limit)

pub returns-in-Default : goal.returns-in-Default
returns-in-Default c = rw c.in-Default.is (c.default.ensures c.args.limit)

pub returns-in-WithCapacity : goal.returns-in-WithCapacity
returns-in-WithCapacity c = rw c.in-WithCapacity.is c.with_capacity.ensures

pub returns-in-FromValue : goal.returns-in-FromValue
returns-in-FromValue c = rw c.in-FromValue.is c.from_value.ensures
