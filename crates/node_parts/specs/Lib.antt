-- What the contracts of the readers of parts cite.
pub mod Runs
pub mod Lists
pub mod Faults
