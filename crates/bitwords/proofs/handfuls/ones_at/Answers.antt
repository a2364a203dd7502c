use Rattle.std.proofs.Common.{◌≡◌, get_or, length, unwrap_or, sym, ap, ◌∙◌}
use Rattle.std.proofs.lemmas.Option.{get_or_from_slice_get, unwrap_or-slice_get}
use Rattle.bitwords.specs.Handfuls.{word_positions}
use Rattle.bitwords.proofs.Giving.{positions-none}
use Rattle.bitwords.proofs.handfuls.ones_at.Goals as goal

pub returns-in-Some-clause-ones : goal.returns-in-Some-clause-ones
returns-in-Some-clause-ones g c =
    let words = g.M.Middle.words c.args.middle.now in
    c.ones_of.ensures.ones
    ∙ sym (ap (λ w. length (word_positions 0 w))
    (get_or_from_slice_get words c.args.index c.in-Some.word 0 (sym c.in-Some.ensures)))

pub returns-in-None-clause-ones : goal.returns-in-None-clause-ones
returns-in-None-clause-ones g c =
    let words = g.M.Middle.words c.args.middle.now in
    let none : get_or words c.args.index 0 ≡ 0 = sym (unwrap_or-slice_get words c.args.index 0)
    ∙ ap (λ o. unwrap_or o 0) (sym c.in-None.ensures) in
    sym (ap (λ w. length (word_positions 0 w)) none ∙ ap length (positions-none 0))
