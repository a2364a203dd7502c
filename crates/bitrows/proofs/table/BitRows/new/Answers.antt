use Rattle.std.proofs.Common.{rules, ◌≡◌, ◌*◌, refl, replicate}
use Rattle.fixedbitset.specs.Bits.{storage_words}
use Rattle.bitrows.proofs.RowWords.{are_rows-zeros, table_of-zeros}
use Rattle.bitrows.proofs.table.BitRows.new.Goals as goal

zeroed : (c : goal.In_ok-vec) → c.in_ok-vec.field-0.items ≡ replicate (c.args.rows * storage_words c.args.columns) 0
zeroed c = rw (← c.storage_words.ensures) (search rules)

pub invariant_of-result : goal.invariant_of-result
invariant_of-result c = rw (zeroed c) (are_rows-zeros c.args.columns _ c.args.rows c.ranges.columns.fits refl)

pub returns : goal.returns
returns c = rw (zeroed c) (table_of-zeros c.args.columns _ c.args.rows c.ranges.columns.fits refl)
