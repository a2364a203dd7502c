-- to believe
pub mod Bits
pub mod Changes
pub mod Depth
pub mod Ones
pub mod Ops
pub mod Range
pub mod Search
pub mod Shifts
pub mod Word
pub mod Words
-- facts for callers
pub mod BitLaws
pub mod ChangeFacts
pub mod RangeFacts
