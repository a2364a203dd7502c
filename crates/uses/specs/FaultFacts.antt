-- For a loop over rows that ends at the first one that is not as P says.
use Rattle.std.specs.Prelude.{◌≡◌, ℕ, ◌+◌, ◌<◌, ◌≤◌, List, [], ◌∷◌, ◌++◌, length, take, drop}
use Rattle.std.proofs.Common.{◌∙◌, get_or, refl, sym, ap, subst, arith}
use Rattle.std.proofs.lemmas.List.{take_all, take_more, take-append-drop, drop_more}
use Rattle.std.proofs.lemmas.List.Elements.{All-push}
use Rattle.uses.specs.declared.text.Row.{Row}
use Rattle.uses.specs.Faults.{IsFirstOther, AreAll}

module _ (P : List ℕ → Type 0) (rows : List Row) (i : ℕ) where
  -- no row yet
  pub no_row : AreAll P (take 0 rows)
  no_row k d within = absurd (omega arith)

  -- one row more
  pub row_more : (row : Row) → i < length rows → row ≡ get_or rows i row → AreAll P (take i rows) → P row.numbers.items
      → AreAll P (take (i + 1) rows)
  row_more row inside is each this =
      subst (AreAll P) (sym (take_more rows i row inside ∙ ap (λ r. take i rows ++ r ∷ []) (sym is)))
      (All-push (λ (r : Row). P r.numbers.items) (take i rows) row each this)

  -- all rows
  pub each_row : length rows ≤ i → AreAll P (take i rows) → AreAll P rows
  each_row past each = subst (AreAll P) (take_all i rows past) each

  -- a row that is not as P says, behind those that are
  pub other_row : (row : Row) → i < length rows → row ≡ get_or rows i row → AreAll P (take i rows)
      → ¬ (P row.numbers.items) → (before : List Row) × (r : Row)
      × IsFirstOther (λ (s : Row). P s.numbers.items) rows before r × (row.line ≡ r.line)
  other_row row inside is each other = (
    take i rows,
    row,
    record {
      after = drop (i + 1) rows;
      parts = sym (take-append-drop i rows)
          ∙ ap (λ r. take i rows ++ r) (drop_more rows i row inside ∙ ap (λ r. r ∷ drop (i + 1) rows) (sym is));
      each = each;
      other = other;
    },
    refl,
  )
