use Rattle.bitlaws.proofs.OfFlow as of_flow
use Rattle.bitlaws.proofs.laws.greatest_by_complement.Goals as goal

pub returns : goal.returns
returns c = record { solves = of_flow.solved; greatest = of_flow.greatest }
