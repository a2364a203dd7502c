use Rattle.std.proofs.Common.{◌≤◌, ◌-◌, ◌==◌, map, length, refl, sym, ap, ◌∙◌, arith}
use Rattle.std.specs.List.{list_all}
use Rattle.bitlanes.proofs.Folding.{zero_in_lane, zero_in_stretch, lane_of_rest, length_left, rest_left}
use Rattle.bitlanes.proofs.search.skip_zeros.Goals as goal
use Rattle.bitlanes.proofs.search.skip_zeros.Goals.{then-loop-rest-test+else-is_zero, else-loop-rest-test}

pub loop-start-init : goal.loop-start-init
loop-start-init g c =
    record {
      after = omega arith;
      within = omega arith;
      zeros = λ i from below. absurd (omega arith);
      cost = omega arith;
    }

pub loop-start-preserved : goal.loop-start-preserved
loop-start-preserved g c =
    let before = c.loop-start.invariant in
    let masked = map (g.O.WordOp.joined c.args.mask) c.args.words.now in
    record {
      after = omega (arith, before.after);
      within = omega (arith, c.loop-start-test.true);
      zeros = λ i from below.
          grind (
            arith,
            before.zeros i from,
            zero_in_stretch c.loop-start.start 16 masked (sym c.are_zero_at.ensures ∙ c.if-are_zero_at.true) i,
          );
      cost = omega (arith, before.cost, before.after, c.tick_four.ensures);
    }

pub loop-rest-preserved : goal.loop-rest-preserved
loop-rest-preserved g c =
    let before = c.loop-rest.invariant in
    let ws = c.args.words.now in
    let rest = c.loop-rest.rest.now in
    let f = g.O.WordOp.joined c.args.mask in
    let four : 4 ≤ length rest = omega (arith, c.loop-rest-test.true) in
    let left = length_left ws rest _ refl four before.same before.within in
    let zero = sym (ap (list_all (λ w. w == 0)) (lane_of_rest f (length ws - length rest) ws rest before.same))
    ∙ (sym (c.is_zero.ensures ∙ ap (list_all (λ w. w == 0)) c.masked_lane_at.ensures) ∙ c.if-is_zero.true) in
    record {
      same = rest_left ws rest _ refl four before.same before.within;
      within = omega (arith, left, before.within);
      after = omega (arith, left, before.after, before.within);
      zeros = λ i from below.
          grind (arith, before.zeros i from, left, zero_in_lane (length ws - length rest) (map f ws) zero i);
      cost = omega (arith, left, before.cost, before.after, before.within, c.tick.ensures);
    }

pub returns-clause-stop : goal.returns-clause-stop
returns-clause-stop g c more =
    let before = c.loop-rest.invariant in
    let ws = c.args.words.now in
    let rest = c.loop-rest.rest.now in
    let f = g.O.WordOp.joined c.args.mask in
    elim c.loop-rest-test.branch [
      | then-loop-rest-test+else-is_zero w ↦
          sym (ap (list_all (λ w. w == 0)) (lane_of_rest f (length ws - length rest) ws rest before.same))
          ∙ sym (w.is_zero.ensures ∙ ap (list_all (λ w. w == 0)) w.masked_lane_at.ensures)
          ∙ w.if-is_zero.false
      | else-loop-rest-test w ↦ absurd (omega (arith, w.loop-rest-test.false, more, before.within))
    ]
