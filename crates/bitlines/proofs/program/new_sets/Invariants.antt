use Rattle.std.proofs.Common.{◌≡◌, replicate}
use Rattle.fixedbitset.specs.Bits.{empty}
use Rattle.bitlines.proofs.program.new_sets.Given as goal

abbrev pub invariant-loop : goal.invariant-loop
invariant-loop l = l.sets.items ≡ replicate l.counter (empty 0)
