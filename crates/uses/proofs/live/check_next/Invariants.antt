use Rattle.std.proofs.Common.{◌<◌, ℕ, length, take, All}
use Rattle.uses.proofs.live.check_next.Given as goal

abbrev pub invariant-loop-from : goal.invariant-loop-from
invariant-loop-from l = All (λ (edge : ℕ × ℕ). edge.1 < length l.program.uses.items) (take l.from-index l.from-items)
