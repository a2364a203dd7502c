-- Edges in another order.
use Rattle.std.specs.Prelude.{ℕ, ◌↔◌, Contains}
use Rattle.flow.specs.Flow.{Edges}

-- two lists have the same edges
abbrev pub HaveSame : Edges → Edges → Type 0
HaveSame a b = (edge : ℕ × ℕ) → Contains a edge ↔ Contains b edge
