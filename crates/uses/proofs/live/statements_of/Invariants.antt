use Rattle.std.proofs.Common.{◌≡◌, ◌<◌, ℕ, length, All}
use Rattle.flow.specs.Flow.{HaveLength}
use Rattle.uses.proofs.live.statements_of.Given as goal

abbrev pub invariant-loop-line : goal.invariant-loop-line
invariant-loop-line l = record {
  can_next : (goal.iterator-loop-line).can_next l.line-iterator;
  is_finite : (goal.iterator-loop-line).is_finite l.line-iterator;
  many : length l.uses.items ≡ length l.defines.items;
  uses : HaveLength 26 l.uses.items;
  defines : HaveLength 26 l.defines.items;
  from : All (λ (edge : ℕ × ℕ). edge.0 < length l.uses.items) l.next.items;
}
