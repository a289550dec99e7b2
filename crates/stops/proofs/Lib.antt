pub mod SameCalls
pub mod Same
pub mod NoStop
pub mod Indices
