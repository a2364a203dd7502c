-- Paths of two relations, for those who call for a closure.
use Rattle.std.specs.Prelude.{ℕ, zero, suc}
use Rattle.bitrows.specs.Paths.{HasPath, IsConnected}

-- each edge of the one is an edge of the other
module _ (E F : ℕ → ℕ → Type 0) (edges : (a b : ℕ) → E a b → F a b) where
  pub path_through : (n a b : ℕ) → HasPath E n a b → HasPath F n a b
  path_through zero a b path = path
  path_through (suc n) a b path = (path.0, path_through n a path.0 path.1, edges path.0 b path.2)

  pub connected_through : (a b : ℕ) → IsConnected E a b → IsConnected F a b
  connected_through a b path = (path.0, path_through (suc path.0) a b path.1)
