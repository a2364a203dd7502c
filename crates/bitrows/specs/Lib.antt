-- to believe
pub mod Tables
pub mod Paths
-- facts for callers
pub mod TableFacts
pub mod PathFacts
pub mod StoredFacts
-- cited only where a caller keeps the words
pub mod Stored
pub mod Views
