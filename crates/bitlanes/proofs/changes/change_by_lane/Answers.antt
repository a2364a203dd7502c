use Rattle.bitlanes.proofs.Changing.{against_joined}
use Rattle.bitlanes.proofs.changes.change_by_lane.Goals as goal

pub returns-clause-words : goal.returns-clause-words
returns-clause-words g c = rw c.lane-new.ensures

pub returns-clause-changed : goal.returns-clause-changed
returns-clause-changed g c = rw c.lane-new.ensures (against_joined g.O.WordOp.joined _ c.args.lane)
