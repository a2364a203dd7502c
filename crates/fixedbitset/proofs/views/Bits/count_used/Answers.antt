use Rattle.std.proofs.Common.{◌∙◌, sym, arith}
use Rattle.fixedbitset.proofs.JoinedCounts.{shows_cut, count_rows, count_rows-fits}
use Rattle.fixedbitset.proofs.views.Bits.count_used.Goals as goal

pub count-requires : goal.count-requires
count-requires g c =
    let first = shows_cut _ c.min-used.result _ c.args.self.clean (omega arith) in
    let second = shows_cut _ c.min-used.result _ c.args.other.clean (omega arith) in
    omega (arith, count_rows-fits g.O.WordOp.truth g.met.O.WordOp.laws.of_neither _ _ _ _ first second)

pub returns-then-other-eq-LANE-clause-count : goal.returns-then-other-eq-LANE-clause-count
returns-then-other-eq-LANE-clause-count g c =
    let first = shows_cut _ c.min-used.result _ c.args.self.clean (omega arith) in
    let second = shows_cut _ c.min-used.result _ c.args.other.clean (omega arith) in
    c.count.ensures.count ∙ sym (count_rows g.O.WordOp.truth g.met.O.WordOp.laws.of_neither _ _ _ _ first second)
