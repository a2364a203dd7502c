-- Grants and denials read one after the other.
use Rattle.std.proofs.Common.{◌≡◌, ◌∙◌, ℕ, ◌+◌, ◌<◌, ◌⊎◌, ◌↔◌, inl, inr, List, [], ◌∷◌, ◌++◌}
use Rattle.std.proofs.Common.{length, get_or, map, take, Contains, sym, ap, subst, ⊎_elim}
use Rattle.std.proofs.lemmas.List.{map-append, take_more}
use Rattle.std.proofs.lemmas.List.Elements.{Contains-push, Contains-push_cases, Contains-append_left}
use Rattle.uses.specs.declared.text.Row.{Row}
use Rattle.uses.specs.Policies.{Rights, IsGranted, IsRevoked}
use Rattle.uses.specs.AccessLines.{HasGrants, IsWithout}

-- one element more
contains_more : {X : Type 0} (xs : List X) (y x : X) → Contains (xs ++ y ∷ []) x ↔ (Contains xs x ⊎ (y ≡ x))
contains_more xs y x = (
  λ one. Contains-push_cases xs y x one,
  λ parts. ⊎_elim (λ old. Contains-append_left xs (y ∷ []) x old)
      (λ new. subst (Contains (xs ++ y ∷ [])) new (Contains-push xs y)) parts,
)

pair : {r x role right : ℕ} → r ∷ x ∷ [] ≡ role ∷ right ∷ [] → (r ≡ role) × (x ≡ right)
pair same = (ap (λ l. get_or l 0 0) same, ap (λ l. get_or l 1 0) same)

module _ (rows : List Row) (i : ℕ) (row : Row) (inside : i < length rows) (is : row ≡ get_or rows i row) where
  lines_more : map (λ (r : Row). r.numbers.items) (take (i + 1) rows) ≡ map (λ (r : Row).
      r.numbers.items) (take i rows) ++ row.numbers.items ∷ []
  lines_more =
      ap (map (λ (r : Row). r.numbers.items)) (take_more rows i row inside ∙ ap (λ r. take i rows ++ r ∷ []) (sym is))
      ∙ map-append (λ (r : Row). r.numbers.items) (take i rows) (row ∷ [])

  pub grants_more : (old new : Rights) (role right : ℕ) → row.numbers.items ≡ role ∷ right ∷ []
      → IsGranted old role right new → HasGrants (take i rows) old → HasGrants (take (i + 1) rows) new
  grants_more old new role right same granted so_far r x =
      rw lines_more (
        λ has.
            (contains_more _ _ _).1
            (⊎_elim (λ was. inl ((so_far r x).0 was))
            (λ now. inr (same ∙ ap (λ n. n ∷ right ∷ []) (sym now.0) ∙ ap (λ n. r ∷ n ∷ []) (sym now.1)))
            ((granted r x).0 has)),
        λ there.
            (granted r x).1 (⊎_elim (λ old. inl ((so_far r x).1 old)) (λ new. inr (pair (sym new ∙ same)))
            ((contains_more _ _ _).0 there)),
      )

  pub denials_more : (old mid new : Rights) (role right : ℕ) → row.numbers.items ≡ role ∷ right ∷ []
      → IsRevoked mid role right new → IsWithout (take i rows) old mid → IsWithout (take (i + 1) rows) old new
  denials_more old mid new role right same revoked so_far r x =
      rw lines_more (
        λ has. let parts = (revoked r x).0 has in let before = (so_far r x).0 parts.0 in (
          before.0,
          λ one. ⊎_elim (λ was. before.1 was) (λ now. parts.1 (pair (sym now ∙ same))) ((contains_more _ _ _).0 one),
        ),
        λ there. (revoked r x).1 (
          (so_far r x).1 (there.0, λ was. there.1 ((contains_more _ _ _).1 (inl was))),
          λ gone.
              there.1 ((contains_more _ _ _).1
              (inr (same ∙ ap (λ n. n ∷ right ∷ []) (sym gone.0) ∙ ap (λ n. r ∷ n ∷ []) (sym gone.1)))),
        ),
      )
