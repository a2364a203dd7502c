-- access
pub mod Granted
pub mod GrantsRead
-- closure
pub mod Pairs
pub mod EdgesRead
-- live
pub mod Backwards
pub mod LettersRead
-- primes
pub mod Sieving
-- reach
pub mod EdgeCounts
pub mod Walking
pub mod RowsRead
-- slots
pub mod Pools
-- subsets
pub mod Steps
pub mod WordPaths
pub mod PartsBuilt
pub mod AcceptingSets
pub mod WordRuns
pub mod AutomatonRead
-- sums
pub mod Totals
-- text
pub mod Read
pub mod Members
pub mod Answered
