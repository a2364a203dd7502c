use Rattle.std.proofs.Common.{arith}
use Rattle.std.proofs.lemmas.Grind.{common_steps}
use Rattle.bitlines.proofs.FirstBytes.{position_near}
use Rattle.bitlines.proofs.near.find_near.Goals as goal

pub returns-then-near-lt32 : goal.returns-then-near-lt32
returns-then-near-lt32 c =
    position_near c.args.byte c.args.text.now 32 c.place_of_32-near.result (grind (arith, common_steps))
    c.place_of_32-near.ensures (grind (arith, common_steps))
