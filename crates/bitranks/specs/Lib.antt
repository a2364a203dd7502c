-- to believe
pub mod Ranks
pub mod RankLaws
-- facts for callers
pub mod RanksFacts
