use Rattle.std.proofs.Common.{arith, ◌≡◌, ◌-◌, ◌+◌, ◌∷◌, length, take, drop, sym, ap, ◌∙◌}
use Rattle.std.proofs.lemmas.Grind.{common_steps}
use Rattle.bitlines.specs.Words.{words}
use Rattle.bitlines.specs.Cursor.{words_left}
use Rattle.bitlines.proofs.LineSplits.{cut_found, cut_none}
use Rattle.bitlines.proofs.words.Words.next.Goals as goal

pub returns-in-Some : goal.returns-in-Some
returns-in-Some c =
    let text = c.in_ok-line.line.now in
    let k = c.in-Some.end in
    let cut = cut_found 32 text k (cc) in
    let all : take (length text - (k + 1)) (drop (k + 1) text) ≡ drop (k + 1) text = grind (arith, common_steps) in
    sym c.self.view_is ∙ ap words_left c.in_ok-line.was ∙ cut ∙ ap (λ t. take k text ∷ words t) (sym all)

pub returns-in-None : goal.returns-in-None
returns-in-None c = sym c.self.view_is ∙ ap words_left c.in_ok-line.was ∙ cut_none 32 c.in_ok-line.line.now (cc)
