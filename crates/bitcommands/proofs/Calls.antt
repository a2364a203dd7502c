-- Calls of a walk, one after the other.
use Rattle.std.proofs.Common.{◌≡◌, ℕ, ◌+◌, ◌-◌, ◌<◌, ◌≤◌, List, [], ◌∷◌, ◌++◌, length, get_or, drop, slice_get}
use Rattle.std.proofs.Common.{Option, Some, None, MatchOption, refl, sym, arith, append_assoc, append-nil}
use Rattle.std.proofs.lemmas.Grind.{common_steps}
use Rattle.std.proofs.lemmas.List.{drop_more, drop_all}
use Rattle.std.proofs.Math.Seq.{take-append_seam}
use Rattle.bitcommands.specs.declared.commands.arguments.End.{End}
use Rattle.bitcommands.specs.declared.commands.arguments.End.TheVariants.{Front, Back}
use Rattle.bitcommands.specs.Calls.{calls}
use Rattle.bitcommands.specs.OneCall.{item_at, without_item_at}

-- a call gave the item at this end, and left the others
abbrev pub IsCall : End → List ℕ → Option ℕ → List ℕ → Type 0
IsCall end xs r ys = (r ≡ item_at end xs) × (ys ≡ without_item_at end xs)

-- a call that yields the first item is one from the front
pub front_call : (xs ys : List ℕ) (r : Option ℕ) → MatchOption r ((xs ≡ []) × (ys ≡ [])) (λ x. xs ≡ x ∷ ys)
    → IsCall Front xs r ys
front_call xs ys None h = rw (h.0, h.1) (refl, refl)
front_call xs ys (Some x) h = rw h (refl, refl)

last_place : (xs : List ℕ) (x : ℕ) → length (xs ++ x ∷ []) - 1 ≡ length xs
last_place xs x = grind (arith, common_steps)

get-last : (xs : List ℕ) (x : ℕ) → slice_get (xs ++ x ∷ []) (length xs) ≡ Some x
get-last [] x = refl
get-last (y ∷ ys) x = get-last ys x

-- a call that yields the last item is one from the back
pub back_call : (xs ys : List ℕ) (r : Option ℕ) → MatchOption r ((xs ≡ []) × (ys ≡ [])) (λ x. xs ≡ ys ++ x ∷ [])
    → IsCall Back xs r ys
back_call xs ys None h = rw (h.0, h.1) (refl, refl)
back_call xs ys (Some x) h = rw (h, last_place ys x) (sym (get-last ys x), sym (take-append_seam ys (x ∷ [])))

calls-cons : (e : End) (es : List End) (xs : List ℕ)
    → calls (e ∷ es) xs ≡ item_at e xs ∷ calls es (without_item_at e xs)
calls-cons Front es xs = refl
calls-cons Back es xs = refl

-- one call more has its answer behind those so far
pub calls_more : (all done : List (Option ℕ)) (ends : List End) (i : ℕ) (d : End) (xs ys : List ℕ) (r : Option ℕ)
    → all ≡ done ++ calls (drop i ends) xs → i < length ends
    → r ≡ item_at (get_or ends i d) xs → ys ≡ without_item_at (get_or ends i d) xs
    → all ≡ (done ++ r ∷ []) ++ calls (drop (i + 1) ends) ys
calls_more all done ends i d xs ys r h lt item left =
    rw (h, drop_more ends i d lt, calls-cons, item, left, append_assoc) refl

pub calls_end : (all done : List (Option ℕ)) (ends : List End) (i : ℕ) (xs : List ℕ)
    → all ≡ done ++ calls (drop i ends) xs → length ends ≤ i → done ≡ all
calls_end all done ends i xs h past = rw (h, drop_all i ends past, append-nil) refl
