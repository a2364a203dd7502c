use Rattle.std.proofs.Common.{◌≡◌, fold, slice_set, true}
use Rattle.fixedbitset.specs.Bits as model
use Rattle.test_callers.proofs.loops.marked.Given as goal

abbrev pub invariant-loop-position : goal.invariant-loop-position
invariant-loop-position l =
    fold (λ seen p. slice_set seen p true) l.marks l.walk.items
    ≡ fold (λ seen p. slice_set seen p true) l.fn.marks (model.asc l.set)
