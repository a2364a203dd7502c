use Rattle.std.proofs.Common.{◌≡◌, fold}
use Rattle.fixedbitset.specs.Bits as model
use Rattle.test_callers.proofs.loops.copied_into.Given as goal

abbrev pub invariant-loop-position : goal.invariant-loop-position
invariant-loop-position l =
    (fold model.insert l.other l.position-iterator.items ≡ fold model.insert l.fn.other (model.asc l.set))
    × (l.other.length ≡ l.fn.other.length)
