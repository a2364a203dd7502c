use Rattle.std.proofs.Common.{◌≤◌, ℕ, All}
use Rattle.uses.proofs.live.add_next.Given as goal

abbrev pub invariant-loop-to : goal.invariant-loop-to
invariant-loop-to l = All (λ (pair : ℕ × ℕ). pair.0 ≤ l.from) l.pairs.items
