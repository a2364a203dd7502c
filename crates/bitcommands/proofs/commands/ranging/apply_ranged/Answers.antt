use Rattle.bitcommands.proofs.commands.ranging.apply_ranged.Goals as goal

pub returns-in-CountZeroes : goal.returns-in-CountZeroes
returns-in-CountZeroes c = rw c.in-CountZeroes.is (c.count_zeroes.ensures c.args.limit)

pub returns-in-SetRange : goal.returns-in-SetRange
returns-in-SetRange c = rw c.in-SetRange.is (c.set_range.ensures c.args.limit)

pub returns-in-InsertRange : goal.returns-in-InsertRange
returns-in-InsertRange c = rw c.in-InsertRange.is (c.insert_range.ensures c.args.limit)

pub returns-in-RemoveRange : goal.returns-in-RemoveRange
returns-in-RemoveRange c = rw c.in-RemoveRange.is (c.remove_range.ensures c.args.limit)

pub returns-in-ToggleRange : goal.returns-in-ToggleRange
returns-in-ToggleRange c = rw c.in-ToggleRange.is (c.toggle_range.ensures c.args.limit)

pub returns-in-ContainsAllInRange : goal.returns-in-ContainsAllInRange
returns-in-ContainsAllInRange c = rw c.in-ContainsAllInRange.is (c.contains_all_in_range.ensures c.args.limit)

pub returns-in-ContainsAnyInRange : goal.returns-in-ContainsAnyInRange
returns-in-ContainsAnyInRange c = rw c.in-ContainsAnyInRange.is (c.contains_any_in_range.ensures c.args.limit)

pub returns-in-RangeIsValid : goal.returns-in-RangeIsValid
returns-in-RangeIsValid c = rw c.in-RangeIsValid.is (c.range_is_valid.ensures c.args.limit)
