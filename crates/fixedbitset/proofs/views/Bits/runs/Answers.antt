use Rattle.fixedbitset.proofs.Words.{of_length}
use Rattle.fixedbitset.proofs.Stretches.{runs_of}
use Rattle.std.proofs.Common.{rules}
use Rattle.fixedbitset.proofs.views.Bits.runs.Goals as goal

pub returns-clause-high : goal.returns-clause-high
returns-clause-high c = search (rules, runs_of, of_length) steps 300000
