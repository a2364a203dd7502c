use Rattle.std.proofs.Common.{◌≡◌, ℕ, ◌<◌, ◌≤◌, ◌-◌, IsTrue}
use Rattle.fixedbitset.specs.Bits.{contains}
use Rattle.test_proved_examples.proofs.calling_1.fill_from.Given as goal

abbrev pub invariant-loop-at : goal.invariant-loop-at
invariant-loop-at l = record {
  length : l.set.length ≡ l.fn.set.length;
  filled : (p : ℕ) → l.from ≤ p → p < l.at → p < l.set.length → IsTrue (contains l.set p);
}

abbrev pub decreases-loop-at : goal.decreases-loop-at
decreases-loop-at l = l.set.length - l.at
