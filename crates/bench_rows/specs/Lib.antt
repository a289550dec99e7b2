pub mod Bench
pub mod Promise
