-- to believe
pub mod Rows
pub mod Steps
pub mod Ascending
pub mod Walk
pub mod Neighbours
pub mod Runs
pub mod Gaps
pub mod Handfuls
-- facts for callers
pub mod AscendingFacts
pub mod NextFacts
pub mod RunsFacts
pub mod GapsFacts
pub mod CountFacts
pub mod NthFacts
pub mod RowFacts
pub mod CallFacts
pub mod WalkFacts
pub mod BesideFacts
-- private, but WalkedWords for callers who keep the parts of a cursor
pub mod Cuts
pub mod WalkedWords
