-- Edges read one after the other.
use Rattle.std.proofs.Common.{◌≡◌, ◌∙◌, ℕ, ◌+◌, ◌<◌, List, [], ◌∷◌, ◌++◌, length, get_or, map, take, sym, ap}
use Rattle.std.proofs.lemmas.List.{map-append, take_more}
use Rattle.uses.specs.declared.text.Row.{Row}
use Rattle.uses.specs.Automata.{Edges}

-- the edges are those of the rows, one each
abbrev pub HasEdges : Edges → List Row → Type 0
HasEdges edges rows =
    map (λ (edge : ℕ × ℕ × ℕ). edge.0 ∷ edge.1 ∷ edge.2 ∷ []) edges ≡ map (λ (row : Row). row.numbers.items) rows

pub edges_more : (rows : List Row) (i : ℕ) (row : Row) (edges : Edges) (edge : ℕ × ℕ × ℕ) → i < length rows
    → row ≡ get_or rows i row → row.numbers.items ≡ edge.0 ∷ edge.1 ∷ edge.2 ∷ [] → HasEdges edges (take i rows)
    → HasEdges (edges ++ edge ∷ []) (take (i + 1) rows)
edges_more rows i row edges edge inside is same so_far =
    let texts : List Row → List (List ℕ) = map (λ (r : Row). r.numbers.items) in
    map-append (λ (e : ℕ × ℕ × ℕ). e.0 ∷ e.1 ∷ e.2 ∷ []) edges (edge ∷ [])
    ∙ ap (λ xs. xs ++ (edge.0 ∷ edge.1 ∷ edge.2 ∷ []) ∷ []) so_far
    ∙ ap (λ x. texts (take i rows) ++ x ∷ []) (sym same)
    ∙ sym (ap texts (take_more rows i row inside ∙ ap (λ r. take i rows ++ r ∷ []) (sym is))
    ∙ map-append (λ (r : Row). r.numbers.items) (take i rows) (row ∷ []))
