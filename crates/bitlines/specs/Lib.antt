-- to believe
pub mod Words
pub mod Reads
pub mod Arguments
pub mod Names
pub mod Lines
pub mod Written
pub mod LineLaws
pub mod Grammar
pub mod GrammarLaws
pub mod StepLaws
pub mod Output
pub mod OutputLaws
pub mod Program
-- private
pub mod Cursor
pub mod OneLine
