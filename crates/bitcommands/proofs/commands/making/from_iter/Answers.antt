use Rattle.std.proofs.Common.{arith}
use Rattle.std.proofs.lemmas.Grind.{common_steps}
use Rattle.std.proofs.lemmas.Iterator.{YieldsList-from_slice}
use Rattle.std.proofs.lemmas.Iterator.Consumers.{YieldsList-from_copied, YieldsList-at}
use Rattle.bitcommands.proofs.TakenIn.{took}
use Rattle.bitcommands.proofs.commands.making.from_iter.Goals as goal

pub returns-in_err-sets : goal.returns-in_err-sets
returns-in_err-sets c =
    let made = c.from_iter.ensures in
    let road = YieldsList-at made.2 (YieldsList-from_copied (YieldsList-from_slice c.args.items.now (cc))) in
    let left = rw c.in_err-sets.was at (took road _ _ c.from_iter.result made.3) in
    grind (arith, common_steps)

pub returns : goal.returns
returns c =
    let made = c.from_iter.ensures in
    let road = YieldsList-at made.2 (YieldsList-from_copied (YieldsList-from_slice c.args.items.now (cc))) in
    let left = rw c.in_ok-sets.was at (took road _ _ c.from_iter.result made.3) in
    grind (arith, common_steps)
