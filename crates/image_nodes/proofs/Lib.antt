pub mod Heads
pub mod Loops
pub mod Rows
pub mod Tests
