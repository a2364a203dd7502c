use Rattle.std.proofs.Common.{sym}
use Rattle.test_callers.proofs.CallsLemmas.{front_call}
use Rattle.test_callers.proofs.SlotLemmas.{first_below, first_clear}
use Rattle.test_callers.proofs.zeroes.first_clear.Goals as goal

pub returns-clause-below : goal.returns-clause-below
returns-clause-below c =
    rw (front_call _ _ _ c.next.ensures.steps).0 (first_below c.args.set.now _ (sym c.zeroes.ensures.items))

pub returns-clause-clear : goal.returns-clause-clear
returns-clause-clear c =
    rw (front_call _ _ _ c.next.ensures.steps).0 (first_clear c.args.set.now _ (sym c.zeroes.ensures.items))
