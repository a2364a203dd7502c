use Rattle.bitlanes.proofs.Moved.{straddle_lanes, length-straddled}
use Rattle.bitlanes.proofs.shifts.straddle_lane.Goals as goal

pub returns-clause-long : goal.returns-clause-long
returns-clause-long c = length-straddled c.args.low c.args.high c.args.shift c.requires.low c.requires.high

pub returns-clause-words : goal.returns-clause-words
returns-clause-words c = straddle_lanes c.args.low c.args.high c.args.shift c.requires.low c.requires.high
