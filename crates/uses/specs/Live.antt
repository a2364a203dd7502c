-- Which variables are live before the statements of a program.
use Rattle.std.specs.Prelude.{ℕ, Contains}
use Rattle.flow.specs.Flow.{Edges, Sets, Has}

-- variable x is live before statement s: s uses it, or s does not define it
-- and it is live before one that may come next
pub data IsLive (next : Edges) (uses defines : Sets) (x : ℕ) : ℕ → Type 0 where
  used : (s : ℕ) → Has uses s x → IsLive next uses defines x s
  later : (s t : ℕ) → ¬ (Has defines s x) → Contains next (s, t) → IsLive next uses defines x t
      → IsLive next uses defines x s
