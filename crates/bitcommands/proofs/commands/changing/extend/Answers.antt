use Rattle.std.proofs.Common.{◌≡◌, arith}
use Rattle.std.proofs.lemmas.Grind.{common_steps}
use Rattle.std.proofs.lemmas.Iterator.{YieldsList-from_slice}
use Rattle.std.proofs.lemmas.Iterator.Consumers.{YieldsList-from_copied, YieldsList-at}
use Rattle.bitcommands.specs.Answers as answer
use Rattle.bitcommands.specs.Outcomes.{replied, fault_refusal}
use Rattle.bitcommands.proofs.TakenIn.{took, fault_step}
use Rattle.bitcommands.proofs.commands.changing.extend.Goals as goal

pub returns-in_err-extend : goal.returns-in_err-extend
returns-in_err-extend c =
    let road = YieldsList-at c.extend.ensures.1
    (YieldsList-from_copied (YieldsList-from_slice c.args.items.now (cc))) in
    let left = rw c.in_err-extend.was at (took road _ _ c.extend.result c.extend.ensures.2) in
    let told : replied c.from_residual-in_err-extend.result ≡ answer.refused (fault_refusal c.in_err-extend.field-0.0) =
    grind arith in
    rw told (fault_step c.args.limit _ _ _ _ _ _ (grind arith) c.index-sets-set.is left)

pub returns : goal.returns
returns c =
    let road = YieldsList-at c.extend.ensures.1
    (YieldsList-from_copied (YieldsList-from_slice c.args.items.now (cc))) in
    let left = rw c.in_ok-extend.was at (took road _ _ c.extend.result c.extend.ensures.2) in
    grind (arith, common_steps)
