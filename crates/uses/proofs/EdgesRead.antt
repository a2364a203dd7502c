-- Edges read one after the other.
use Rattle.std.proofs.Common.{◌≡◌, ◌∙◌, ℕ, ◌+◌, ◌<◌, ◌⊎◌, ◌↔◌, inl, inr, List, [], ◌∷◌, ◌++◌}
use Rattle.std.proofs.Common.{length, get_or, map, take, Contains, sym, ap, subst, ⊎_elim}
use Rattle.std.proofs.lemmas.List.{map-append, take_more}
use Rattle.std.proofs.lemmas.List.Elements.{Contains-push, Contains-push_cases, Contains-append_left}
use Rattle.uses.specs.declared.text.Row.{Row}
use Rattle.uses.specs.Edges.{HasEdge}

pair : {r x from to : ℕ} → r ∷ x ∷ [] ≡ from ∷ to ∷ [] → (r ≡ from) × (x ≡ to)
pair same = (ap (λ l. get_or l 0 0) same, ap (λ l. get_or l 1 0) same)

module _ (rows : List Row) (i : ℕ) (row : Row) (inside : i < length rows) (is : row ≡ get_or rows i row) where
  abbrev texts : List Row → List (List ℕ)
  texts = map (λ (r : Row). r.numbers.items)

  lines_more : texts (take (i + 1) rows) ≡ texts (take i rows) ++ row.numbers.items ∷ []
  lines_more = ap texts (take_more rows i row inside ∙ ap (λ r. take i rows ++ r ∷ []) (sym is))
      ∙ map-append (λ (r : Row). r.numbers.items) (take i rows) (row ∷ [])

  -- one edge more
  pub edges_more : (from to : ℕ) → row.numbers.items ≡ from ∷ to ∷ [] → (a b : ℕ)
      → HasEdge (take (i + 1) rows) a b ↔ (HasEdge (take i rows) a b ⊎ ((a ≡ from) × (b ≡ to)))
  edges_more from to same a b = (
    λ there.
        ⊎_elim (λ old. inl old) (λ new. inr (pair (sym new ∙ same)))
        (Contains-push_cases (texts (take i rows)) row.numbers.items (a ∷ b ∷ [])
        (subst (λ l. Contains l (a ∷ b ∷ [])) lines_more there)),
    λ either.
        subst (λ l. Contains l (a ∷ b ∷ [])) (sym lines_more)
        (⊎_elim
        (λ old. Contains-append_left (texts (take i rows)) (row.numbers.items ∷ []) (a ∷ b ∷ []) old)
        (λ new. subst (Contains (texts (take i rows) ++ row.numbers.items ∷ []))
        (same ∙ (λ j. sym new.0 j ∷ sym new.1 j ∷ [])) (Contains-push (texts (take i rows)) row.numbers.items))
        either),
  )
