use Rattle.std.proofs.Common.{◌∙◌, sym, arith}
use Rattle.fixedbitset.proofs.JoinedCounts.{shows, count_rows, count_rows-fits}
use Rattle.fixedbitset.proofs.views.Bits.count.Goals as goal

pub count-requires : goal.count-requires
count-requires g c =
    let first = shows _ _ c.args.self.clean in
    let second = shows _ _ c.args.other.clean in
    omega (arith, count_rows-fits g.O.WordOp.truth g.met.O.WordOp.laws.of_neither _ _ _ _ first second)

pub returns-clause-count : goal.returns-clause-count
returns-clause-count g c =
    let first = shows _ _ c.args.self.clean in
    let second = shows _ _ c.args.other.clean in
    c.count.ensures.count ∙ sym (count_rows g.O.WordOp.truth g.met.O.WordOp.laws.of_neither _ _ _ _ first second)
