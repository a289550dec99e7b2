-- One more package of the library held.
pub mod Holding
