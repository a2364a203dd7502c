use Rattle.bitranks.specs.RanksFacts.{rank-select, select-none}
use Rattle.bitranks.proofs.laws.rank_of_select.Goals as goal

pub returns : goal.returns
returns c = record { rank = rank-select; none = select-none }
