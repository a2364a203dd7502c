use Rattle.std.proofs.Common.{◌-◌, ◌≡◌, ℕ, ◌≤◌}
use Rattle.bitlanes.specs.Bits.{bit}
use Rattle.bitwords.specs.Gaps.{has_run}
use Rattle.bitwords.proofs.gaps.run_starts.Given as goal

-- the starts of runs of so many as are joined
abbrev pub invariant-loop-have : goal.invariant-loop-have
invariant-loop-have l = record {
  some : 1 ≤ l.have;
  within : l.have ≤ l.count;
  runs : (i : ℕ) → bit l.starts i ≡ has_run l.word l.have i;
}

abbrev pub decreases-loop-have : goal.decreases-loop-have
decreases-loop-have l = l.count - l.have
