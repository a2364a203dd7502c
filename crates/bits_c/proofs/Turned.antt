-- A loop that writes f of each item over it.
use Rattle.std.proofs.Common.{◌≡◌, ℕ, zero, suc, ◌+◌, ◌<◌, ◌≤◌, List, [], ◌∷◌, ◌++◌}
use Rattle.std.proofs.Common.{length, take, drop, map, set, get_or, refl, ap, ◌∙◌, arith}
use Rattle.std.proofs.lemmas.List.{append-nil, take_all, drop_all}

module _ (f : ℕ → ℕ) where
  -- the first k items are written
  abbrev pub turned : ℕ → List ℕ → List ℕ
  turned k xs = map f (take k xs) ++ drop k xs

  written_over : (k : ℕ) (xs : List ℕ) → k < length xs
      → set (turned k xs) k (f (get_or (turned k xs) k 0)) ≡ turned (suc k) xs
  written_over k [] h = absurd (omega arith)
  written_over zero (x ∷ xs) h = refl
  written_over (suc k) (x ∷ xs) h = ap (λ l. f x ∷ l) (written_over k xs (omega arith))

  -- one more
  pub turned_more : (k : ℕ) (xs : List ℕ) → k < length xs
      → set (turned k xs) k (f (get_or (turned k xs) k 0)) ≡ turned (k + 1) xs
  turned_more k xs h = written_over k xs h ∙ (let e : suc k ≡ k + 1 = omega arith in ap (λ n. turned n xs) e)

  pub turned_all : (k : ℕ) (xs : List ℕ) → length xs ≤ k → turned k xs ≡ map f xs
  turned_all k xs h =
      let front = ap (map f) (take_all k xs h) in
      let back = drop_all k xs h in
      (λ i. front i ++ back i) ∙ append-nil (map f xs)
