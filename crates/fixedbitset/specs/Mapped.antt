-- No public clause cites this module.
-- A list whose places are written one after the other, each with what a function makes of an item.
use Rattle.std.proofs.Common.{◌≡◌, ℕ, ◌+◌, ◌<◌, List, ◌++◌, length, take, drop, map, get_or, sym, ap, ◌∙◌, arith}
use Rattle.std.proofs.Math.ListN.{set, get_or-map}
use Rattle.std.proofs.Math.Nat.{zero-add}
use Rattle.std.proofs.lemmas.List.{take-map, length-map}
use Rattle.std.proofs.lemmas.List.Edits.{paste_more}

-- one more place has what f makes of its item
pub more_mapped : {A B : Type 0} (f : A → B) (items : List A) (places out : List B) (k : ℕ) (d : A)
    → length items ≡ length places → k < length items → out ≡ map f (take k items) ++ drop k places
    → set out k (f (get_or items k d)) ≡ map f (take (k + 1) items) ++ drop (k + 1) places
more_mapped f items places out k d long lt is =
    let below : k < length (map f items) = rw (length-map items f) lt in
    let write = simp zero-add at (paste_more places 0 (map f items) k (f d) (omega arith) below) in
    ap (λ ys. set ys k (f (get_or items k d)))
    (is ∙ ap (λ ys. ys ++ drop k places) (sym (take-map f k items)))
    ∙ ap (set (take k (map f items) ++ drop k places) k) (sym (get_or-map f items k d))
    ∙ write ∙ ap (λ ys. ys ++ drop (k + 1) places) (take-map f (k + 1) items)
