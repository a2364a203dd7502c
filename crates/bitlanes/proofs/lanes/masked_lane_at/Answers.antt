use Rattle.std.proofs.Common.{◌∙◌}
use Rattle.bitlanes.proofs.Zipping.{chunk_masked}
use Rattle.bitlanes.proofs.lanes.masked_lane_at.Goals as goal

pub returns : goal.returns
returns g c = c.lane.ensures ∙ chunk_masked g.O.WordOp.joined c.args.mask c.args.at 4 c.args.words.now c.requires
