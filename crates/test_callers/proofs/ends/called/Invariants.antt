use Rattle.std.proofs.Common.{◌≡◌, ◌++◌, drop}
use Rattle.test_callers.specs.Calls.{answers}
use Rattle.fixedbitset.specs.Bits as model
use Rattle.test_callers.proofs.ends.called.Given as goal

-- the answers so far, and those of the ends that are left
abbrev pub invariant-loop-front : goal.invariant-loop-front
invariant-loop-front l =
    l.list.items ++ answers (drop l.front-index l.ends) l.walk.items ≡ answers l.ends (model.asc l.set)
