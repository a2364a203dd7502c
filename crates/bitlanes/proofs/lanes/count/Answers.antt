use Rattle.std.proofs.Common.{sum_by, count_ones, ap, ◌∙◌, arith}
use Rattle.bitlanes.proofs.Zipping.{take_joined}
use Rattle.bitlanes.proofs.lanes.count.Goals as goal

pub returns-then-words-eq-LANE-clause-ones : goal.returns-then-words-eq-LANE-clause-ones
returns-then-words-eq-LANE-clause-ones g c =
    c.ones_in.ensures
    ∙ ap (sum_by count_ones) (c.lane_at.ensures
    ∙ take_joined g.O.WordOp.joined 4 c.args.a.now c.args.b.now
    (omega (arith, c.min-words.ensures, c.if-words-eq-LANE.true)))
