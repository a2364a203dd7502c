use Rattle.bitranks.specs.RanksFacts.{rank-mono, rank-size}
use Rattle.bitranks.proofs.laws.rank_grows.Goals as goal

pub returns : goal.returns
returns c = record { grows = rank-mono; size = rank-size }
