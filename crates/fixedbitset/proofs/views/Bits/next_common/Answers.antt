use Rattle.std.proofs.Common.{arith, sym}
use Rattle.fixedbitset.proofs.NextPositions.{next_common_of, no_next_common, fewer_words}
use Rattle.fixedbitset.proofs.views.Bits.next_common.Goals as goal

pub returns-then-from-min-clause-next : goal.returns-then-from-min-clause-next
returns-then-from-min-clause-next c =
    no_next_common _ _ c.args.self.clean _ _ c.args.other.clean c.args.from (omega arith)

pub returns-clause-next : goal.returns-clause-next
returns-clause-next c =
    next_common_of _ _ c.args.self.clean _ _ c.args.other.clean c.args.from c.next_common.result
    c.next_common.ensures.found c.next_common.ensures.none

pub returns-clause-cost : goal.returns-clause-cost
returns-clause-cost c = c.next_common.ensures.cost

pub returns-clause-bound : goal.returns-clause-bound
returns-clause-bound c =
    let fewer = fewer_words c.args.self.length c.args.other.length in
    rw (sym fewer, sym c.args.self.clean.count, sym c.args.other.clean.count) c.next_common.ensures.bound
