pub mod RowWords
pub mod Closing
