pub mod Items
pub mod Grown
