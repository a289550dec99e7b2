pub mod Slots
pub mod Room
