-- Laws that the proofs cite.
pub mod Changing
pub mod DigitLaws
