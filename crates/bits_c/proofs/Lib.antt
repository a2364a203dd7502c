pub mod Sets
pub mod Given
pub mod Between
pub mod Ranked
pub mod Tables
pub mod Turned
pub mod Takes
pub mod Words
