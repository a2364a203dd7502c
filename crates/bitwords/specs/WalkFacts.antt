-- What runs of calls from an iterator give, for those who make one.
use Rattle.std.specs.Prelude.{◌≡◌, ℕ, List, Option, Some, None}
use Rattle.std.specs.Iterator.{YieldsFirst, YieldsLast}
use Rattle.std.specs.Iterator.Runs.{EachRunFrom, ItemsAre, ItemsAreReversed, ItemsMapTo, ItemsMapToReversed}
use Rattle.std.proofs.Common.{ap, ◌∙◌, subst, length}
use Rattle.std.proofs.lemmas.Iterator.{YieldsList}
use Rattle.std.proofs.lemmas.Iterator.Consumers.{YieldsList-from_shown}
use Rattle.std.proofs.iter.runs.Sources.{from_front, from_back, as_is, as_is_back}
use Rattle.bitwords.specs.Walk.{Walk, GivesFirst, GivesLast}

-- an iterator each of whose calls gives the first of the items left, and one that has these left
module _ {S : Type 0} (items : S → List ℕ) (steps : S → Option ℕ → S → Type 0) (gives : (s : S) (r : Option ℕ) (t : S)
    → steps s r t → YieldsFirst items s r t) (walk : S) (xs : List ℕ) (left : items walk ≡ xs) where
  -- its calls give the items that were left, in order
  pub runs_forwards : EachRunFrom steps walk (λ run. ItemsAre run xs)
  runs_forwards run seen here =
      as_is run xs (subst (λ ys. ItemsMapTo run (λ x. x) ys) (ap items here ∙ left)
      (from_front steps (λ x. x) items (λ s t h. ap length (gives s None t h).0) (λ s x t h. gives s (Some x) t h)
      run seen))

  -- they give this list: what the lemmas of std on chains take
  pub list_forwards : YieldsList steps (λ p. p) walk xs
  list_forwards = subst (YieldsList steps (λ p. p) walk) left
      (YieldsList-from_shown steps (λ p. p) items (λ s t h. ap length (gives s None t h).0)
      (λ s x t h. gives s (Some x) t h) walk)

-- an iterator each of whose calls from the back gives the last of the items left
module _ {S : Type 0} (items : S → List ℕ) (steps : S → Option ℕ → S → Type 0) (gives : (s : S) (r : Option ℕ) (t : S)
    → steps s r t → YieldsLast items s r t) (walk : S) (xs : List ℕ) (left : items walk ≡ xs) where
  -- its calls from the back give the items that were left, in reverse
  pub runs_backwards : EachRunFrom steps walk (λ run. ItemsAreReversed run xs)
  runs_backwards run seen here =
      as_is_back run xs (subst (λ ys. ItemsMapToReversed run (λ x. x) ys) (ap items here ∙ left)
      (from_back steps (λ x. x) items (λ s t h. ap length (gives s None t h).0) (λ s x t h. gives s (Some x) t h)
      run seen))

-- the same of the iterators over one set
module _ (walk : Walk) (xs : List ℕ) (left : walk.items ≡ xs) where
  pub walk_forwards : EachRunFrom GivesFirst walk (λ run. ItemsAre run xs)
  walk_forwards = runs_forwards (λ w. w.items) GivesFirst (λ s r t h. h.0) walk xs left

  pub walk_backwards : EachRunFrom GivesLast walk (λ run. ItemsAreReversed run xs)
  walk_backwards = runs_backwards (λ w. w.items) GivesLast (λ s r t h. h.0) walk xs left

  pub walk_list : YieldsList GivesFirst (λ p. p) walk xs
  walk_list = list_forwards (λ w. w.items) GivesFirst (λ s r t h. h.0) walk xs left
