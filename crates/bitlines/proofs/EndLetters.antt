-- The letters of ends, one after the other.
use Rattle.std.proofs.Common.{◌≡◌, ℕ, ◌+◌, ◌<◌, ◌≤◌, List, [], ◌∷◌, ◌++◌, length, get_or}
use Rattle.std.proofs.Common.{drop, Option, Some, None, refl, ap, ◌∙◌, arith, append-nil}
use Rattle.std.proofs.lemmas.List.{at_drop_more, at_drop_all}
use Rattle.bitcommands.specs.declared.commands.arguments.End.{End}
use Rattle.bitlines.specs.Arguments.{end_of, ends_from, ends_of}
use Rattle.bitlines.proofs.Lists.{onto, onto-one, onto-onto, onto-nil}

pub ends_empty : (w : List ℕ) → length w ≡ 0 → ends_of w ≡ None
unfolding ends_of
ends_empty [] e = refl
ends_empty (c ∷ cs) e = absurd (omega arith)

pub ends_start : (w : List ℕ) → 0 < length w → ends_of w ≡ onto [] (ends_from w)
unfolding ends_of
ends_start [] lt = absurd (omega arith)
ends_start (c ∷ cs) lt = onto-nil (ends_from (c ∷ cs))

pub ends_more : (all : Option (List End)) (xs : List End) (w : List ℕ) (i : ℕ) (x : End)
    → all ≡ onto xs (ends_from (drop i w)) → i < length w → end_of (get_or w i 0) ≡ Some x
    → all ≡ onto (xs ++ x ∷ []) (ends_from (drop (i + 1) w))
unfolding ends_from
ends_more all xs w i x e lt some =
    e ∙ at_drop_more (λ u. onto xs (ends_from u)) w i 0 lt ∙ rw some (ap (onto xs) (onto-one x _)) ∙ onto-onto xs x _

pub ends_none : (all : Option (List End)) (xs : List End) (w : List ℕ) (i : ℕ) → all ≡ onto xs (ends_from (drop i w))
    → i < length w → end_of (get_or w i 0) ≡ None → all ≡ None
unfolding ends_from
ends_none all xs w i e lt none = e ∙ at_drop_more (λ u. onto xs (ends_from u)) w i 0 lt ∙ rw none refl

pub ends_end : (all : Option (List End)) (xs : List End) (w : List ℕ) (i : ℕ) → all ≡ onto xs (ends_from (drop i w))
    → length w ≤ i → all ≡ Some xs
unfolding ends_from
ends_end all xs w i e past = e ∙ at_drop_all (λ u. onto xs (ends_from u)) w i past ∙ ap Some (append-nil xs)
