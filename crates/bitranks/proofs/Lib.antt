pub mod Counting
pub mod Halving
