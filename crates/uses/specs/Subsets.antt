-- The step of a set by a letter, and the number of a set.
use Rattle.std.specs.Prelude.{◌≡◌, ℕ, ◌<◌, ◌↔◌, ◌⊎◌, IsTrue, List, [], ◌∷◌, ◌++◌, length, Contains}
use Rattle.fixedbitset.specs.Bits.{Bits, contains}
use Rattle.uses.specs.Automata.{Edges, at}

-- an edge leads to state q from one of these states by the letter
abbrev pub IsNext : Edges → Bits → ℕ → ℕ → Type 0
IsNext edges set letter q = (p : ℕ) × IsTrue (contains set p) × Contains edges (p, letter, q)

-- the set of the states to which such edges lead
pub record IsStep (states : ℕ) (edges : Edges) (set : Bits) (letter : ℕ) (new : Bits) : Type 0 where
  pub sized : new.length ≡ states
  pub members : (q : ℕ) → IsTrue (contains new q) ↔ IsNext edges set letter q

-- set k is this one, which was there before or is added now
abbrev pub IsNumbered : List Bits → Bits → List Bits → ℕ → Type 0
IsNumbered old set new k =
    ((k < length old) × (at old k ≡ set) × (new ≡ old))
    ⊎ (¬ (Contains old set) × (new ≡ old ++ set ∷ []) × (k ≡ length old))
