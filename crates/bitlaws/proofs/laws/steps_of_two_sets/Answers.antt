use Rattle.std.proofs.Common.{rules}
use Rattle.bitlaws.proofs.laws.steps_of_two_sets.Goals as goal

pub returns-clause-whole : goal.returns-clause-whole
returns-clause-whole c = search rules steps 100000
