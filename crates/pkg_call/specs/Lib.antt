-- What the contracts of the crate cite.
pub mod Found
pub mod Ready
pub mod Calls
