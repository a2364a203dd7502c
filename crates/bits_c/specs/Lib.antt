pub mod Sets
pub mod Walks
