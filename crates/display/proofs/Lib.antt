-- Laws that the proofs of the functions share.
pub mod Copying
pub mod DigitLaws
pub mod ShownLaws
pub mod EveryLaws
pub mod Examples
mod Sinks
