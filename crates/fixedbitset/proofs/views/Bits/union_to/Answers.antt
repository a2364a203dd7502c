use Rattle.std.proofs.Common.{rules}
use Rattle.fixedbitset.proofs.Words.{of_length}
use Rattle.fixedbitset.proofs.JoinedValues.{union_longer, union_shorter}
use Rattle.fixedbitset.proofs.views.Bits.union_to.Goals as goal

pub returns-then-self-other-clause-value : goal.returns-then-self-other-clause-value
returns-then-self-other-clause-value c = search (rules, of_length, union_longer, union_shorter) steps 800000
