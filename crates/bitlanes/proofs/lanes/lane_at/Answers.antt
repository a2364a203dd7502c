use Rattle.std.proofs.Common.{◌∙◌, sym}
use Rattle.bitlanes.proofs.Zipping.{chunk_zip2}
use Rattle.bitlanes.proofs.lanes.lane_at.Goals as goal

pub returns : goal.returns
returns g c = c.lane.ensures ∙ sym (chunk_zip2 g.O.WordOp.joined c.args.at 4 c.args.a.now c.args.b.now)
