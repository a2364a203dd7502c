use Rattle.std.proofs.Common.{rules}
use Rattle.bitlines.specs.Arguments.{end_bound_of}
use Rattle.bitlines.proofs.arguments.end_bound.Goals as goal

pub returns-then-is_empty : goal.returns-then-is_empty
unfolding end_bound_of
returns-then-is_empty c = search rules steps 300000
