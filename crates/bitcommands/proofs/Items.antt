-- The text of a list, from the front.
use Rattle.std.proofs.Common.{◌≡◌, ℕ, List, [], ◌∷◌, ◌++◌, sym, ap, append-nil}
use Rattle.std.specs.List.{flat_map}
use Rattle.bitcommands.specs.Texts.{spaced_text}

module _ {A : Type 0} (text : A → List ℕ) where
  -- a text with the space before it
  abbrev pub spaced : A → List ℕ
  spaced x = 32 ∷ text x

  -- the first text, and then each other with the space before it
  pub spaced_text-cons : (x : A) (xs : List A) → spaced_text text (x ∷ xs) ≡ text x ++ flat_map spaced xs
  spaced_text-cons x [] = sym (append-nil (text x))
  spaced_text-cons x (y ∷ ys) = ap (λ t. text x ++ 32 ∷ t) (spaced_text-cons y ys)
