-- What the first item of a walk over the zeros is.
use Rattle.std.proofs.Common.{◌≡◌, ℕ, ◌<◌, false, List, [], ◌∷◌, IfSome}
use Rattle.fixedbitset.specs.Bits.{Bits, contains, asc, complement}
use Rattle.fixedbitset.specs.FirstFacts.{first_zero}
use Rattle.test_callers.specs.Calls.{first_of}

module _ (v : Bits) where
  pub first_below : (xs : List ℕ) → asc (complement v) ≡ xs → IfSome (first_of xs) (λ p. p < v.length)
  first_below [] same = tt
  first_below (x ∷ xs) same = (first_zero v x xs same).0

  pub first_clear : (xs : List ℕ) → asc (complement v) ≡ xs → IfSome (first_of xs) (λ p. contains v p ≡ false)
  first_clear [] same = tt
  first_clear (x ∷ xs) same = (first_zero v x xs same).1
