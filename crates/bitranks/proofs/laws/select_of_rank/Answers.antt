use Rattle.bitranks.specs.RanksFacts.{select-rank}
use Rattle.bitranks.proofs.laws.select_of_rank.Goals as goal

pub returns : goal.returns
returns c = select-rank
