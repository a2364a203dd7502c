-- Paths, and the edges of a table: one from each row to each column at which it has a bit.
use Rattle.std.specs.Prelude.{◌≡◌, ℕ, zero, suc, ◌<◌, ◌↔◌, Bool, IsTrue, sum_by}
use Rattle.std.specs.List.{range_with_len}
use Rattle.bitwords.specs.Rows.{count_below}
use Rattle.bitrows.specs.Tables.{Table, has}

-- there is an edge from node a to node b
abbrev pub HasEdge : Table → ℕ → ℕ → Type 0
HasEdge t a b = IsTrue (has t a b)

-- there is a path of so many edges from node a to node b
abbrev pub HasPath : (ℕ → ℕ → Type 0) → ℕ → ℕ → ℕ → Type 0
HasPath Edge zero a b = a ≡ b
HasPath Edge (suc n) a b = (c : ℕ) × HasPath Edge n a c × Edge c b

-- some path of one or more edges leads from node a to node b
abbrev pub IsConnected : (ℕ → ℕ → Type 0) → ℕ → ℕ → Type 0
IsConnected Edge a b = (n : ℕ) × HasPath Edge (suc n) a b

-- a path with so many nodes between its ends, each of them below k, leads from node a to node b
abbrev pub HasPathBelow : (ℕ → ℕ → Type 0) → ℕ → ℕ → ℕ → ℕ → Type 0
HasPathBelow Edge k zero a b = Edge a b
HasPathBelow Edge k (suc n) a b = (c : ℕ) × HasPathBelow Edge k n a c × Edge c b × (c < k)

-- some path whose nodes between its ends are all below k leads from node a to node b
abbrev pub IsConnectedBelow : (ℕ → ℕ → Type 0) → ℕ → ℕ → ℕ → Type 0
IsConnectedBelow Edge k a b = (n : ℕ) × HasPathBelow Edge k n a b

-- how many pairs of a node k and a node a there are, both below n, with a path from a to k whose nodes between its ends
-- are all below k
abbrev pub IsPairCount : (ℕ → ℕ → Type 0) → ℕ → ℕ → Type 0
IsPairCount Edge n pairs =
    (test : ℕ → ℕ → Bool) × ((k a : ℕ) → IsTrue (test k a) ↔ IsConnectedBelow Edge k a k)
    × (pairs ≡ sum_by (λ k. count_below (test k) n) (range_with_len 0 n))
