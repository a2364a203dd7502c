use Rattle.fixedbitset.specs.SizeFacts.{count_ones-insert, count_ones-remove, insert-set, remove-clear}
use Rattle.bitlaws.proofs.laws.one_more_or_fewer.Goals as goal

pub returns : goal.returns
returns c = search (count_ones-insert, insert-set, count_ones-remove, remove-clear)
