-- What a sieve lets through of the items of its source, for those who take the items one by one.
use Rattle.std.proofs.Common.{◌≡◌, ℕ, Bool, true, false, filter, List, [], ◌∷◌, ◌++◌}
use Rattle.std.proofs.Common.{length, Option, Some, None, sym, ap, ◌∙◌, arith, append-nil}
use Rattle.std.specs.Iterator.{UpTo, at_most}
use Rattle.std.specs.Option.{IfSome}
use Rattle.std.proofs.lemmas.List.Elements.{filter-append}
use Rattle.std.proofs.lemmas.List.Sums.{length-filter, count_by-le-length}

module _ (test : ℕ → Bool) (source items : List ℕ) (same : filter test source ≡ items) (x : ℕ) (rest : List ℕ) where
  -- the first item of the source passes, or does not
  pub first_passes : source ≡ x ∷ rest → test x ≡ true → items ≡ x ∷ filter test rest
  first_passes is passes = grind arith

  pub first_fails : source ≡ x ∷ rest → test x ≡ false → filter test rest ≡ items
  first_fails is fails = grind arith

  -- the last item of the source passes, or does not
  pub last_passes : source ≡ rest ++ x ∷ [] → test x ≡ true → items ≡ filter test rest ++ x ∷ []
  last_passes is passes = grind (arith, filter-append test rest (x ∷ []))

  pub last_fails : source ≡ rest ++ x ∷ [] → test x ≡ false → filter test rest ≡ items
  last_fails is fails = grind (arith, filter-append test rest (x ∷ []), append-nil (filter test rest))

-- a source that gives no item leaves none
pub nothing_left : (test : ℕ → Bool) (source rest items : List ℕ) → filter test source ≡ items → source ≡ [] → rest ≡ []
    → (items ≡ []) × (filter test rest ≡ [])
nothing_left test source rest items same none also = (sym same ∙ ap (filter test) none, ap (filter test) also)

-- a hint of the source is one of what passes
pub hint_sieved : (r : Option ℕ) (test : ℕ → Bool) (source items : List ℕ) → filter test source ≡ items
    → IfSome r (UpTo (at_most (length source))) → IfSome r (UpTo (at_most (length items)))
hint_sieved None test source items is upper = tt
hint_sieved (Some x) test source items is upper =
    (tt, omega (arith, upper.1, length-filter test source, count_by-le-length test source, ap length is))
