use Rattle.std.proofs.Common.{◌≡◌, ℕ, ◌≤◌, false, length}
use Rattle.fixedbitset.specs.Bits.{contains}
use Rattle.test_values.specs.Slow.{HasPositionsTo}
use Rattle.test_values.proofs.slow.filled.Given as goal

-- the set has the length of the flags, and of the positions those so far alone
abbrev pub invariant-loop-position : goal.invariant-loop-position
invariant-loop-position l = record {
  same_length : l.set.length ≡ length l.flags;
  so_far : HasPositionsTo l.position l.set l.flags;
  ahead : (p : ℕ) → l.position ≤ p → contains l.set p ≡ false;
}
