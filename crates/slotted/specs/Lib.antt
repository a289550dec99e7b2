-- What the contracts of the crate cite.
pub mod Argues
pub mod Meant
