use Rattle.uses.proofs.Totals.{totals_none, totals_more}
use Rattle.uses.proofs.sums.parts.totals.Goals as goal

pub loop-number-init : goal.loop-number-init
loop-number-init c = rw (c.insert.ensures, c.in_ok-set.ensures) (totals_none c.args.limit)

pub loop-number-preserved : goal.loop-number-preserved
loop-number-preserved c =
    rw c.union_with_own_shift.ensures (totals_more c.args.limit c.args.numbers.now c.loop-number.number-index
    c.loop-number.set c.loop-number-test.true c.loop-number.invariant)
