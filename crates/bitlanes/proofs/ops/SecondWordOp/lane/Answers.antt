use Rattle.std.proofs.Common.{◌∙◌, sym}
use Rattle.bitlanes.proofs.Zipping.{zip2-second}
use Rattle.bitlanes.proofs.ops.SecondWordOp.lane.Goals as goal

pub returns : goal.returns
returns c = zip2-second c.args._left c.args.right (c.fits-_left.0 ∙ sym c.fits-right.0)
