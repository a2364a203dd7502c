-- to believe
pub mod Form
pub mod Bytes
-- facts for callers
pub mod FormFacts
pub mod BytesFacts
