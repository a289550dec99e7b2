pub mod Inputs
pub mod Refusals
pub mod Run
