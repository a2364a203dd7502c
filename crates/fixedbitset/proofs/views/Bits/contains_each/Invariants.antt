use Rattle.std.proofs.Common.{◌≡◌, ◌++◌, map, take, drop}
use Rattle.fixedbitset.specs.Bits.{contains}
use Rattle.fixedbitset.specs.Views.{value}
use Rattle.fixedbitset.proofs.views.Bits.contains_each.Given as goal

-- the answers for the positions that came are written
abbrev pub invariant-loop-index : goal.invariant-loop-index
invariant-loop-index l =
    l.answers ≡ map (contains (value l.self)) (take l.index l.positions) ++ drop l.index l.fn.answers
