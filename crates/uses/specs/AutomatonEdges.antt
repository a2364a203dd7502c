-- The edges of an automaton.
use Rattle.std.specs.Prelude.{◌≡◌, ℕ, ◌<◌, List, length, slice_index}

-- an edge's two ends are states, and between them it bears a letter
abbrev pub IsBetween : ℕ → ℕ → ℕ × ℕ × ℕ → Type 0
IsBetween states letters edge = (edge.0 < states) × (edge.1 < letters) × (edge.2 < states)

-- three numbers: a state, a letter and a state
abbrev pub IsEdge : ℕ → ℕ → List ℕ → Type 0
IsEdge states letters numbers = (length numbers ≡ 3)
    × IsBetween states letters (slice_index numbers 0, slice_index numbers 1, slice_index numbers 2)
