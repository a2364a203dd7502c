use Rattle.bitlanes.proofs.shifts.join_lane.Goals as goal

pub returns : goal.returns
returns g c = rw c.lane.ensures
