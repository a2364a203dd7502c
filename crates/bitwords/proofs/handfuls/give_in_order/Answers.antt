use Rattle.std.proofs.Common.{◌≡◌, ℕ, ◌+◌, ◌-◌, List, length, map, count_ones, drop, sym, ap, ◌∙◌, arith}
use Rattle.std.proofs.lemmas.List.{drop-drop, drop-map, length-map}
use Rattle.std.proofs.lemmas.Slice.{drop-put_mid}
use Rattle.bitwords.specs.Handfuls.{word_positions, in_eights}
use Rattle.bitwords.proofs.Giving.{length-positions, positions-most, written-eight, all-written, drop-further}
use Rattle.bitwords.proofs.handfuls.give_in_order.Goals as goal

pub loop-at-preserved : goal.loop-at-preserved
loop-at-preserved g c =
    let place : ℕ → ℕ = g.O.Order.placed c.args.base in
    let bits : List ℕ = word_positions 0 c.args.word in
    let long : length (map place bits) ≡ length bits = length-map bits place in
    let inv = c.loop-at.invariant in
    let most = positions-most 0 c.args.word in
    let count = length-positions 0 c.args.word c.ranges.word.fits in
    let rest : map place (word_positions 0 c.loop-at.left) ≡ drop c.loop-at.at (map place bits) =
    ap (map place) inv.rest ∙ sym (drop-map place c.loop-at.at bits) in
    record {
      eights = omega (arith, inv.eights);
      within = omega (arith, inv.eights, most, count);
      written =
          λ j below some. written-eight (map place bits) c.loop-at.places c.give_eight-left.new.eight c.loop-at.at
          (omega (arith, inv.eights, inv.within, c.requires.room)) (omega arith)
          (λ k under also. inv.written k under (omega arith))
          (λ k under also. rw rest at (c.give_eight-left.ensures.written k under (omega (
            arith,
            ap length rest,
            length-map (word_positions 0 c.loop-at.left) place,
          )))) j below (omega arith);
      behind = drop-put_mid c.loop-at.at (c.loop-at.at + 8 - c.loop-at.at) c.loop-at.places c.give_eight-left.new.eight
          (c.loop-at.at + 8) (omega arith) (omega (arith, inv.eights, inv.within, c.requires.room)) (omega arith)
          ∙ drop-further 8 c.loop-at.at c.loop-at.places c.args.places.now inv.behind;
      rest = c.give_eight-left.ensures.rest ∙ ap (drop 8) inv.rest ∙ drop-drop 8 c.loop-at.at bits;
    }

pub returns-clause-written : goal.returns-clause-written
returns-clause-written g c =
    let place : ℕ → ℕ = g.O.Order.placed c.args.base in
    let bits : List ℕ = word_positions 0 c.args.word in
    let long : length (map place bits) ≡ length bits = length-map bits place in
    let most = positions-most 0 c.args.word in
    let count = length-positions 0 c.args.word c.ranges.word.fits in
    all-written (map place bits) c.loop-at.places c.loop-at.at _ (sym (long ∙ count)) (omega arith)
    (omega (arith, most, count)) (λ k under also. c.loop-at.invariant.written k under (omega arith))

pub returns-clause-behind : goal.returns-clause-behind
returns-clause-behind g c =
    let inv = c.loop-at.invariant in
    let e : c.loop-at.at ≡ in_eights (count_ones c.args.word) = omega (arith, inv.eights, inv.within) in
    rw e at inv.behind
