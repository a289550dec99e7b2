-- What is left in the buffers.
mod Left
pub mod Within
pub mod Ends
