-- to believe
pub mod Actions
pub mod Arguments
pub mod Answers
pub mod Sets
pub mod Guards
pub mod Calls
pub mod Table
pub mod Steps
pub mod Texts
pub mod Outcomes
-- facts for callers
pub mod TextsFacts
-- private
pub mod OneCall
pub mod Quoting
