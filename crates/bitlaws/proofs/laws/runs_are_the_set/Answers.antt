use Rattle.bitlaws.proofs.OfRuns.{runs_are_the_set, zero_runs_are_the_others}
use Rattle.bitlaws.proofs.laws.runs_are_the_set.Goals as goal

pub returns : goal.returns
returns c = search (runs_are_the_set, zero_runs_are_the_others)
