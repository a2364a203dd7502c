use Rattle.bitlaws.proofs.OfRuns.{room_tells, gap_is_least, aligned_gap_is_least}
use Rattle.bitlaws.proofs.laws.first_gap_is_least.Goals as goal

pub returns : goal.returns
returns c = search (room_tells, gap_is_least, aligned_gap_is_least)
