use Rattle.std.proofs.Common.{◌≡◌, ℕ, List, map, length, drop, ap, ◌∙◌, arith}
use Rattle.std.proofs.lemmas.List.{drop-drop, length-map}
use Rattle.bitwords.specs.Handfuls.{word_positions}
use Rattle.bitwords.proofs.Giving.{step-rest, step-first, written-one}
use Rattle.bitwords.proofs.handfuls.give_eight.Goals as goal

pub loop-index-preserved : goal.loop-index-preserved
loop-index-preserved g c =
    let place : ℕ → ℕ = g.O.Order.placed c.args.base in
    let bits : List ℕ = word_positions 0 c.args.word in
    let long : length (map place bits) ≡ length bits = length-map bits place in
    let inv = c.loop-index.invariant in
    record {
      written =
          λ j below some. written-one (map place bits) c.loop-index.eight c.loop-index.index _
          (omega (arith, c.loop-index.auto.eight, c.requires.room))
          (λ k under also. inv.written k under (omega arith))
          (step-first place bits c.loop-index.left c.loop-index.index _ c.loop-index.auto.left-fits.fits inv.rest
          c.place.ensures) j below (omega arith);
      rest = step-rest 0 c.loop-index.left c.loop-index.auto.left-fits.fits ∙ ap (drop 1) inv.rest
          ∙ drop-drop 1 c.loop-index.index bits;
    }
