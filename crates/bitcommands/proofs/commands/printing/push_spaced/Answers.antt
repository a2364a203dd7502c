use Rattle.std.proofs.Common.{arith, append_assoc, refl}
use Rattle.std.proofs.lemmas.Grind.{common_steps}
use Rattle.std.proofs.lemmas.List.{take_all}
use Rattle.bitcommands.proofs.Items.{spaced_text-cons}
use Rattle.bitcommands.proofs.commands.printing.push_spaced.Goals as goal

pub returns-clause-ok : goal.returns-clause-ok
returns-clause-ok g c =
    rw (
      c.in-Some.ensures.cases.0,
      spaced_text-cons,
      c.loop-part.invariant,
      take_all c.loop-part.part-index c.in-Some.rest.now (omega arith),
      c.in_ok-push_to.ensures.ok,
      append_assoc,
    ) refl

pub loop-part-preserved : goal.loop-part-preserved
loop-part-preserved g c = grind (arith, common_steps)

pub returns-in_err-push_to-clause-err : goal.returns-in_err-push_to-clause-err
returns-in_err-push_to-clause-err g c = grind (arith, common_steps)

pub returns-in_err-push-clause-err : goal.returns-in_err-push-clause-err
returns-in_err-push-clause-err g c = grind (arith, common_steps)

pub returns-in_err-push_to-2-clause-err : goal.returns-in_err-push_to-2-clause-err
returns-in_err-push_to-2-clause-err g c = grind (arith, common_steps)
