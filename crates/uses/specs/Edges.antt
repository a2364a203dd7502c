-- Which edges the rows are, and pairs of nodes in order.
use Rattle.std.specs.Prelude.{◌≡◌, ℕ, ◌<◌, ◌≤◌, ◌⊎◌, ◌↔◌, List, [], ◌∷◌, ◌++◌}
use Rattle.std.specs.Prelude.{All, Contains, length, map, slice_index, decimal}
use Rattle.std.specs.List.{AllPairs, flat_map, range_with_len}
use Rattle.uses.specs.declared.text.Row.{Row}
use Rattle.fixedbitset.specs.Bits.{asc}
use Rattle.bitrows.specs.Tables.{Table, row_of}
use Rattle.uses.specs.Texts.{HasRows}

-- two numbers: the nodes that an edge leads from and to
abbrev pub IsEdge : ℕ → List ℕ → Type 0
IsEdge nodes numbers =
    (length numbers ≡ 2) × (slice_index numbers 0 < nodes) × (slice_index numbers 1 < nodes)

-- one of the rows is the edge from node a to node b
abbrev pub HasEdge : List Row → ℕ → ℕ → Type 0
HasEdge rows a b = Contains (map (λ (row : Row). row.numbers.items) rows) (a ∷ b ∷ [])

-- the first nodes of two pairs are in order, or they are one node and the second nodes are in order
abbrev pub IsBefore : ℕ × ℕ → ℕ × ℕ → Type 0
IsBefore p q = (p.0 < q.0) ⊎ ((p.0 ≡ q.0) × (p.1 < q.1))

-- the row and the column of each bit in the first n rows of a table, row after row
abbrev pub pairs_in : Table → ℕ → List (ℕ × ℕ)
pairs_in t n = flat_map (λ row. map (λ column. (row, column)) (asc (row_of t row))) (range_with_len 0 n)

-- the first line of the text is how many nodes there are, not more than the limit, and each other one is an edge
pub record HasEdges (limit : ℕ) (text : List ℕ) (nodes : ℕ) (edges : List (List ℕ)) : Type 0 where
  pub rows : HasRows text ((nodes ∷ []) ∷ edges)
  pub within : nodes ≤ limit
  pub each : All (IsEdge nodes) edges

-- the pairs in decimal, one a line, a space between the two numbers
abbrev pub pair_lines : List (ℕ × ℕ) → List ℕ
pair_lines pairs = flat_map (λ pair. decimal pair.0 ++ 32 ∷ decimal pair.1 ++ 10 ∷ []) pairs

-- the text is that of exactly the pairs that R holds of, in ascending order
pub record PrintsPairs (R : ℕ → ℕ → Type 0) (text : List ℕ) : Type 0 where
  pub pairs : List (ℕ × ℕ)
  pub ascending : AllPairs IsBefore pairs
  pub members : (a b : ℕ) → Contains pairs (a, b) ↔ R a b
  pub is_text : text ≡ pair_lines pairs
