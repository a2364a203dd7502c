use Rattle.std.proofs.Common.{◌-◌, ◌==◌, map, sym, ap, ◌∙◌, arith}
use Rattle.std.specs.List.{list_all}
use Rattle.bitlanes.proofs.Folding.{zero_in_lane, zero_in_stretch, lane_of_front}
use Rattle.bitlanes.proofs.search.skip_zeros_back.Goals as goal

pub loop-end-init : goal.loop-end-init
loop-end-init g c = record { within = omega arith; zeros = λ i from below. absurd (omega arith); cost = omega arith }

pub loop-end-preserved : goal.loop-end-preserved
loop-end-preserved g c =
    let before = c.loop-end.invariant in
    let masked = map (g.O.WordOp.joined c.args.mask) c.args.words.now in
    record {
      within = omega (arith, before.within);
      zeros = λ i from below.
          grind (
            arith,
            before.zeros i,
            zero_in_stretch (c.loop-end.end - 16) 16 masked (sym c.are_zero_at.ensures ∙ c.if-are_zero_at.true) i,
          );
      cost = omega (arith, before.cost, before.within, c.tick_four.ensures);
    }

pub loop-end-2-preserved : goal.loop-end-2-preserved
loop-end-2-preserved g c =
    let before = c.loop-end-2.invariant in
    let ws = c.args.words.now in
    let end = c.loop-end-2.end in
    let f = g.O.WordOp.joined c.args.mask in
    let front = lane_of_front f (end - 4) end ws (omega (arith, c.loop-end-2-test.true)) in
    let zero = sym (ap (list_all (λ w. w == 0)) front)
    ∙ (sym (c.is_zero.ensures ∙ ap (list_all (λ w. w == 0)) c.masked_lane_at.ensures) ∙ c.if-is_zero.true) in
    record {
      within = omega (arith, before.within);
      zeros = λ i from below. grind (arith, before.zeros i, zero_in_lane (end - 4) (map f ws) zero i);
      cost = omega (arith, before.cost, before.within, c.loop-end-2-test.true, c.tick.ensures);
    }

pub returns-else-is_zero-clause-stop : goal.returns-else-is_zero-clause-stop
returns-else-is_zero-clause-stop g c some =
    let end = c.loop-end-2.end in
    let f = g.O.WordOp.joined c.args.mask in
    sym (ap (list_all (λ w. w == 0)) (lane_of_front f (end - 4) end c.args.words.now (omega (arith, some))))
    ∙ sym (c.is_zero.ensures ∙ ap (list_all (λ w. w == 0)) c.masked_lane_at.ensures)
    ∙ c.if-is_zero.false
