-- to believe
pub mod Slots
pub mod Calls
-- private
pub mod Low
