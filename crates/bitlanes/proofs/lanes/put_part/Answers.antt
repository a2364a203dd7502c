use Rattle.std.proofs.Common.{◌+◌, arith}
use Rattle.bitlanes.proofs.Filling.{put_one, put_two, put_three}
use Rattle.bitlanes.proofs.lanes.put_part.Goals as goal

pub returns-then-rest-gt2 : goal.returns-then-rest-gt2
returns-then-rest-gt2 c =
    grind (arith, c.fits-lane.0, put_three c.args.at (c.args.at + 1) (c.args.at + 2) c.args.words.now c.args.lane)

pub returns-else-rest-gt2 : goal.returns-else-rest-gt2
returns-else-rest-gt2 c = grind (arith, c.fits-lane.0, put_two c.args.at (c.args.at + 1) c.args.words.now c.args.lane)

pub returns-else-rest-gt1 : goal.returns-else-rest-gt1
returns-else-rest-gt1 c = grind (arith, c.fits-lane.0, put_one c.args.at c.args.words.now c.args.lane)
