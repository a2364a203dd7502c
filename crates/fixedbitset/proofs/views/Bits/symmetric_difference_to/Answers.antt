use Rattle.std.proofs.Common.{rules}
use Rattle.fixedbitset.proofs.Words.{of_length}
use Rattle.fixedbitset.proofs.JoinedValues.{symmetric_difference_longer, symmetric_difference_shorter}
use Rattle.fixedbitset.proofs.views.Bits.symmetric_difference_to.Goals as goal

pub returns-then-self-other-clause-value : goal.returns-then-self-other-clause-value
returns-then-self-other-clause-value c =
    search (rules, of_length, symmetric_difference_longer, symmetric_difference_shorter) steps 800000
