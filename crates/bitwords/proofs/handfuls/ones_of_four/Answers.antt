use Rattle.std.proofs.Common.{arith}
use Rattle.bitwords.proofs.Places.{four-ahead}
use Rattle.bitwords.proofs.handfuls.ones_of_four.Goals as goal

pub returns : goal.returns
returns g c = omega (arith, four-ahead (g.M.Middle.words c.args.middle.now) c.args.first)
