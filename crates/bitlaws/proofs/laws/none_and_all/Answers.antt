use Rattle.std.proofs.Common.{sym, ◌∙◌}
use Rattle.std.proofs.lemmas.Bool.{eq-eqb, eqb-true}
use Rattle.fixedbitset.specs.SizeFacts.{is_clear-counts, is_full-counts}
use Rattle.bitlaws.proofs.laws.none_and_all.Goals as goal

pub returns-clause-clear : goal.returns-clause-clear
returns-clause-clear c v =
    (λ clear. eqb-true _ _ (sym (is_clear-counts v) ∙ clear), λ none. is_clear-counts v ∙ eq-eqb _ _ none)

pub returns-clause-full : goal.returns-clause-full
returns-clause-full c v =
    (λ full. eqb-true _ _ (sym (is_full-counts v) ∙ full), λ all. is_full-counts v ∙ eq-eqb _ _ all)
