-- The equations of a data-flow analysis over the nodes and edges of a graph, their solutions, the least of these, and
-- the paths that facts take. Nodes are the numbers below the length of `gens`.
use Rattle.std.specs.Prelude.{◌≡◌, ℕ, ◌<◌, ◌↔◌, ◌⊎◌, IsTrue, List, length, slice_index_or, All, Contains}
use Rattle.fixedbitset.specs.Bits.{Bits, contains, empty}

-- edges, each from its first node to its second
abbrev pub Edges : Type 0
Edges = List (ℕ × ℕ)

-- a set of facts for each node, by number
abbrev pub Sets : Type 0
Sets = List Bits

-- the set of node v (an empty one where there is none)
abbrev pub at : Sets → ℕ → Bits
at sets v = slice_index_or sets v (empty 0)

-- fact p is in the set of node v
abbrev pub Has : Sets → ℕ → ℕ → Type 0
Has sets v p = IsTrue (contains (at sets v) p)

-- ---- problems

-- each set has length `facts`
abbrev pub HaveLength : ℕ → Sets → Type 0
HaveLength facts sets = All (λ set. set.length ≡ facts) sets

-- both ends of each edge are below `nodes`
abbrev pub AreBelow : ℕ → Edges → Type 0
AreBelow nodes edges = All (λ edge. (edge.0 < nodes) × (edge.1 < nodes)) edges

-- `gens` and `kills` have one set of length `facts` for each node, and the edges are between nodes
pub record IsProblem (facts : ℕ) (edges : Edges) (gens kills : Sets) : Type 0 where
  pub equally_many : length gens ≡ length kills
  pub gens_length : HaveLength facts gens
  pub kills_length : HaveLength facts kills
  pub edges_below : AreBelow (length gens) edges

-- there is one set of length `facts` for each node
abbrev pub IsFor : Sets → ℕ → Sets → Type 0
IsFor gens facts sets = (length sets ≡ length gens) × HaveLength facts sets

-- ---- solutions

-- the equations, for each node v and each fact p
pub record IsSolution (edges : Edges) (gens kills ins outs : Sets) : Type 0 where
  -- In(v) is the union of Out(u) over the edges (u, v)
  pub of_ins : (v p : ℕ) → v < length gens → Has ins v p ↔ ((u : ℕ) × Contains edges (u, v) × Has outs u p)
  -- Out(v) is the union of Gen(v) and those members of In(v) that are not in Kill(v)
  pub of_outs : (v p : ℕ) → v < length gens → Has outs v p ↔ (Has gens v p ⊎ (Has ins v p × ¬ (Has kills v p)))

-- each fact of each node is one of that node in every solution
abbrev pub IsLeast : Edges → Sets → Sets → Sets → Sets → Type 0
IsLeast edges gens kills ins outs =
    (other_ins other_outs : Sets) → IsSolution edges gens kills other_ins other_outs
    → (v p : ℕ) → v < length gens → (Has ins v p → Has other_ins v p) × (Has outs v p → Has other_outs v p)

-- ---- paths

-- fact p comes out of node v: v generates it, or it comes along an edge and v does not kill it
pub data ComesOut (edges : Edges) (gens kills : Sets) (p : ℕ) : ℕ → Type 0 where
  generated : (v : ℕ) → Has gens v p → ComesOut edges gens kills p v
  along : (u v : ℕ) → ComesOut edges gens kills p u → Contains edges (u, v) → ¬ (Has kills v p)
      → ComesOut edges gens kills p v

-- the facts of Out(v) are those that come out of v
abbrev pub ArePaths : Edges → Sets → Sets → Sets → Type 0
ArePaths edges gens kills outs = (v p : ℕ) → v < length gens → Has outs v p ↔ ComesOut edges gens kills p v
