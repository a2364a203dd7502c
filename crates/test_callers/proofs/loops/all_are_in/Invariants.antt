use Rattle.std.proofs.Common.{IsTrue}
use Rattle.fixedbitset.specs.Bits as model
use Rattle.fixedbitset.specs.WalkFacts.{AreDone}
use Rattle.test_callers.proofs.loops.all_are_in.Given as goal

abbrev pub invariant-loop-position : goal.invariant-loop-position
invariant-loop-position l = AreDone l.set (λ p. IsTrue (model.contains l.other p)) l.position-iterator.items
