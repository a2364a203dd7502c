use Rattle.fixedbitset.proofs.Words.{of_length}
use Rattle.fixedbitset.proofs.Stretches.{zero_runs_of}
use Rattle.std.proofs.Common.{rules}
use Rattle.fixedbitset.proofs.views.Bits.zero_runs.Goals as goal

pub returns-clause-high : goal.returns-clause-high
returns-clause-high c = search (rules, zero_runs_of, of_length) steps 300000
