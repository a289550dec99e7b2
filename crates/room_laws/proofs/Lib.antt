pub mod Sums
pub mod Records
pub mod Bounds
