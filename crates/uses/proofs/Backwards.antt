-- What comes out of a statement against the run of the program is what is live before it.
use Rattle.std.proofs.Common.{◌∙◌, ℕ, ◌<◌, ◌↔◌, map, length, sym, ap, arith}
use Rattle.std.specs.Prelude.{Contains}
use Rattle.std.proofs.lemmas.List.{get_or-map, length-map}
use Rattle.std.proofs.lemmas.List.Elements.{All-map}
use Rattle.flow.specs.Flow.{Edges, Sets, IsProblem, ComesOut, generated, along}
use Rattle.uses.specs.Live.{IsLive, used, later}

-- an edge the other way round
abbrev pub turn : ℕ × ℕ → ℕ × ℕ
turn edge = (edge.1, edge.0)

-- each edge the other way round
abbrev pub turned : Edges → Edges
turned edges = map turn edges

pub in_turned : (edges : Edges) (s t : ℕ) → Contains edges (s, t) → Contains (turned edges) (t, s)
in_turned edges s t (k, within, is) =
    (k, (let many = length-map edges turn in omega arith), get_or-map turn edges k (s, t) (t, s) within ∙ ap turn is)

pub from_turned : (edges : Edges) (s t : ℕ) → Contains (turned edges) (t, s) → Contains edges (s, t)
from_turned edges s t (k, within, is) =
    let there : k < length edges = (let many = length-map edges turn in omega arith) in
    (k, there, ap turn (sym (get_or-map turn edges k (s, t) (t, s) there) ∙ is))

module _ (next : Edges) (uses defines : Sets) where
  live : (x s : ℕ) → ComesOut (turned next) uses defines x s → IsLive next uses defines x s
  live x _ (generated s uses_it) = used s uses_it
  live x _ (along t s from edge spared) = later s t spared (from_turned next s t edge) (live x t from)

  comes_out : (x s : ℕ) → IsLive next uses defines x s → ComesOut (turned next) uses defines x s
  comes_out x _ (used s uses_it) = generated s uses_it
  comes_out x _ (later s t spared edge from) = along t s (comes_out x t from) (in_turned next s t edge) spared

  pub live_exactly : (x s : ℕ) → ComesOut (turned next) uses defines x s ↔ IsLive next uses defines x s
  live_exactly x s = (live x s, comes_out x s)

-- a problem stays one with its edges the other way round
pub turned_problem : (facts : ℕ) (edges : Edges) (gens kills : Sets) → IsProblem facts edges gens kills
    → IsProblem facts (turned edges) gens kills
turned_problem facts edges gens kills problem = record {
  equally_many = problem.equally_many;
  gens_length = problem.gens_length;
  kills_length = problem.kills_length;
  edges_below = All-map (λ edge. (edge.0 < length gens) × (edge.1 < length gens)) turn edges
      (λ k d within. let ends = problem.edges_below k d within in (ends.1, ends.0));
}
