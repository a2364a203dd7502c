-- to believe
pub mod Pairs
pub mod Runs
-- facts for callers
pub mod PairsFacts
pub mod SieveFacts
