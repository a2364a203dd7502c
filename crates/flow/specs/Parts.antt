-- No public clause cites this module.
-- Part of the edges, in another order.
use Rattle.std.specs.Prelude.{◌≡◌, ℕ, ◌<◌, ◌++◌, ◌↔◌, IsTrue, List, length, map, slice_index_or}
use Rattle.std.specs.Prelude.{Contains, IsPermutation}
use Rattle.std.specs.List.{range_with_len}
use Rattle.fixedbitset.specs.Bits.{Bits, contains}
use Rattle.flow.specs.Flow.{Edges}

-- the edge of an index
abbrev pub edge_at : Edges → ℕ → ℕ × ℕ
edge_at edges k = slice_index_or edges k (0, 0)

-- the edges of the indices that are taken, in some order; each index is one of these or of the others, once
pub record IsPart (edges : Edges) (taken : Bits) (list : Edges) : Type 0 where
  pub long : taken.length ≡ length edges
  pub indices : List ℕ
  pub others : List ℕ
  pub once : IsPermutation (range_with_len 0 (length edges)) (indices ++ others)
  pub marked : (k : ℕ) → k < length edges → Contains indices k ↔ IsTrue (contains taken k)
  pub has : list ≡ map (edge_at edges) indices
