-- A graph read row after row.
use Rattle.std.proofs.Common.{◌≡◌, ◌∙◌, ℕ, ◌+◌, ◌<◌, List, [], ◌∷◌, ◌++◌, Vec}
use Rattle.std.proofs.Common.{length, get_or, map, take, sym, ap, subst, arith}
use Rattle.std.specs.declared.alloc.Global.{Global}
use Rattle.std.proofs.lemmas.List.{map-append, length-map, get_or-map, take_more}
use Rattle.uses.specs.declared.text.Row.{Row}
use Rattle.uses.specs.Faults.{AreAll}
use Rattle.uses.specs.Reach.{Graph, AreNodes, IsGraph}

-- the rows of the graph are those of the text
abbrev pub HasRows : Graph → List Row → Type 0
HasRows graph rows = map (λ (nodes : Vec ℕ Global). nodes.items) graph ≡ map (λ (row : Row). row.numbers.items) rows

pub has_rows_more : (rows : List Row) (i : ℕ) (row : Row) (graph : Graph) (nodes : Vec ℕ Global) → i < length rows
    → row ≡ get_or rows i row → nodes.items ≡ row.numbers.items → HasRows graph (take i rows)
    → HasRows (graph ++ nodes ∷ []) (take (i + 1) rows)
has_rows_more rows i row graph nodes inside is same so_far =
    let texts : List Row → List (List ℕ) = map (λ (r : Row). r.numbers.items) in
    map-append (λ (n : Vec ℕ Global). n.items) graph (nodes ∷ [])
    ∙ ap (λ xs. xs ++ nodes.items ∷ []) so_far
    ∙ ap (λ x. texts (take i rows) ++ x ∷ []) same
    ∙ sym (ap texts (take_more rows i row inside ∙ ap (λ r. take i rows ++ r ∷ []) (sym is))
    ∙ map-append (λ (r : Row). r.numbers.items) (take i rows) (row ∷ []))

pub is_graph : (rows : List Row) (graph : Graph) → HasRows graph rows → AreAll (AreNodes (length rows)) rows
    → IsGraph graph
is_graph rows graph same each k d within =
    let long : length graph ≡ length rows =
    sym (length-map graph (λ (n : Vec ℕ Global). n.items)) ∙ ap length same ∙ length-map rows (λ (r : Row).
    r.numbers.items) in
    let row : Row = record { line = 0; numbers = d } in
    let inside : k < length rows = omega arith in
    let here : (get_or rows k row).numbers.items ≡ (get_or graph k d).items =
    sym (get_or-map (λ (r : Row). r.numbers.items) rows k row [] inside) ∙ sym (ap (λ xs. get_or xs k []) same)
    ∙ get_or-map (λ (n : Vec ℕ Global). n.items) graph k d [] within
    in
    subst (λ nodes. AreNodes (length graph) nodes) here
    (subst (λ n. AreNodes n (get_or rows k row).numbers.items) (sym long) (each k row inside))
