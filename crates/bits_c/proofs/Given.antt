-- An item that is handed out as an answer and a place for it.
use Rattle.std.proofs.Common.{◌≡◌, Option, List, [], ◌∷◌, ◌++◌, sym, subst}
use Rattle.std.specs.Option.{MatchOption}

module _ {A : Type 0} (before after : List A) (item told : Option A) (is : told ≡ item) where
  pub first_given : MatchOption item ((before ≡ []) × (after ≡ [])) (λ x. before ≡ x ∷ after)
      → MatchOption told ((before ≡ []) × (after ≡ [])) (λ x. before ≡ x ∷ after)
  first_given h = subst (λ o. MatchOption o ((before ≡ []) × (after ≡ [])) (λ x. before ≡ x ∷ after)) (sym is) h

  pub last_given : MatchOption item ((before ≡ []) × (after ≡ [])) (λ x. before ≡ after ++ x ∷ [])
      → MatchOption told ((before ≡ []) × (after ≡ [])) (λ x. before ≡ after ++ x ∷ [])
  last_given h = subst (λ o. MatchOption o ((before ≡ []) × (after ≡ [])) (λ x. before ≡ after ++ x ∷ [])) (sym is) h
