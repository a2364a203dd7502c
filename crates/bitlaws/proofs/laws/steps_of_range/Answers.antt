use Rattle.std.proofs.Common.{rules}
use Rattle.bitlaws.proofs.laws.steps_of_range.Goals as goal

pub returns-clause-words : goal.returns-clause-words
returns-clause-words c = search rules steps 300000
