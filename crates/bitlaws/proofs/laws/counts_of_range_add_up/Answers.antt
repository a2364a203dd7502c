use Rattle.fixedbitset.specs.SizeFacts.{range_counts_add_up}
use Rattle.bitlaws.proofs.laws.counts_of_range_add_up.Goals as goal

pub returns : goal.returns
returns c = range_counts_add_up
