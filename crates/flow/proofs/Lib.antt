pub mod Totals
pub mod Turning
pub mod Ordering
