pub mod Kept
pub mod Larger
