use Rattle.test_values.specs.Slow.{HasPositionsTo}
use Rattle.test_values.proofs.slow.has_positions.Given as goal

-- the positions so far are set as the flags are
abbrev pub invariant-loop-position : goal.invariant-loop-position
invariant-loop-position l = HasPositionsTo l.position l.set l.flags
