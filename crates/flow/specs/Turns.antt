-- No public clause cites this module.
-- What holds of the sets of facts before and after each round.
use Rattle.std.specs.Prelude.{ℕ, ◌<◌, ◌↔◌, ◌⊎◌, IsTrue, length, slice_set, All, Contains, sum_by, count_by}
use Rattle.std.specs.List.{range_with_len}
use Rattle.fixedbitset.specs.Bits.{Bits, contains, empty}
use Rattle.fixedbitset.specs.Ranges.{insert_range}
use Rattle.fixedbitset.specs.TwoSets.{union, difference}
use Rattle.flow.specs.Flow.{Edges, Sets, at, Has, HaveLength, IsFor, ComesOut}

-- the length of the sets, where it is the same for each
abbrev pub facts_of : Sets → ℕ
facts_of sets = (at sets 0).length

-- one set of length `facts` for each node, and Out(v) has each fact of In(v) that Kill(v) lacks
pub record Fits (facts : ℕ) (kills ins outs : Sets) : Type 0 where
  pub kills_for : IsFor ins facts kills
  pub ins_length : HaveLength facts ins
  pub outs_for : IsFor ins facts outs
  pub spared : (v p : ℕ) → Has ins v p → ¬ (Has kills v p) → Has outs v p

-- sets on the way to the least solution: all holds but that each Out(u) is in In(v), for an edge (u, v)
pub record IsReached (edges : Edges) (gens kills ins outs : Sets) : Type 0 where
  pub from_edges : (v p : ℕ) → v < length gens → Has ins v p → (u : ℕ) × Contains edges (u, v) × Has outs u p
  pub of_outs : (v p : ℕ) → v < length gens → Has outs v p ↔ (Has gens v p ⊎ (Has ins v p × ¬ (Has kills v p)))
  pub by_paths : (v p : ℕ) → v < length gens → Has outs v p → ComesOut edges gens kills p v

-- each fact of Out(u) is in In(v), for the edge (u, v)
abbrev pub IsPassed : Sets → Sets → ℕ × ℕ → Type 0
IsPassed ins outs edge = (p : ℕ) → Has outs edge.0 p → Has ins edge.1 p

-- the same for each edge
abbrev pub AreSettled : Edges → Sets → Sets → Type 0
AreSettled edges ins outs = All (IsPassed ins outs) edges

-- the same, but where u is one of these nodes
abbrev pub AreSettledBut : Bits → Edges → Sets → Sets → Type 0
AreSettledBut nodes edges ins outs = All (λ edge. IsTrue (contains nodes edge.0) ⊎ IsPassed ins outs edge) edges

-- all of so many nodes
abbrev pub all : ℕ → Bits
all nodes = insert_range (empty nodes) 0 nodes

-- how many facts the sets have, all nodes together
unfoldable pub total : ℕ → Sets → ℕ
total facts sets = sum_by (λ set. count_by (contains set) (range_with_len 0 facts)) sets

-- In, after what Out(u) has went along the edge (u, v)
unfoldable pub ins_after : Sets → Sets → ℕ → ℕ → Sets
ins_after ins outs u v = slice_set ins v (union (at ins v) (at outs u))

-- Out, after it
unfoldable pub outs_after : Sets → Sets → ℕ → ℕ → Sets
outs_after kills outs u v = slice_set outs v (union (at outs v) (difference (at outs u) (at kills v)))
