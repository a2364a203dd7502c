-- What a run of items makes of a set, for those who know all that the iterator gives.
use Rattle.std.proofs.Common.{◌≡◌, ℕ, List, Option, Result, Ok, Err, OnOk, IfOk, map-id, sym, ap, ◌∙◌}
use Rattle.std.proofs.lemmas.Iterator.{YieldsList, items_from_drains}
use Rattle.fixedbitset.specs.declared.extend.ExtendFault.{ExtendFault}
use Rattle.fixedbitset.specs.Bits.{Bits, add_all}
use Rattle.fixedbitset.specs.Extended.{Extends}

module _ {S : Type 0} {gives : S → Option ℕ → S → Type 0} {it : S} {old new : Bits} {all : List ℕ} where
  -- where a run ends with no error, all that the iterator gives is added
  pub all_added : {R : Type 0} (result : Result R ExtendFault) → Extends gives it old new result
      → YieldsList gives (λ x. x) it all → OnOk result (new ≡ add_all old all)
  all_added (Ok x) e runs = let (rest, (last, run, none)) = e.next in
      e.added ∙ ap (add_all old) (sym (map-id e.taken) ∙ items_from_drains e.taken (last, run, λ _. (rest, none)) runs)
  all_added (Err x) e runs = tt

  -- the same of a set that is made by the run
  pub all_made : (result : Result Bits ExtendFault) → Extends gives it old new result → IfOk result (λ set. set ≡ new)
      → YieldsList gives (λ x. x) it all → IfOk result (λ set. set ≡ add_all old all)
  all_made (Ok set) e same runs = same ∙ all_added (Ok set) e runs
  all_made (Err x) e same runs = tt
