use Rattle.fixedbitset.proofs.Words.{of_length}
use Rattle.std.proofs.Common.{rules}
use Rattle.fixedbitset.proofs.views.Bits.range_is_valid.Goals as goal

pub returns-else-start-end : goal.returns-else-start-end
returns-else-start-end c = search (rules, of_length) steps 300000
