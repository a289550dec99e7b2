-- The proofs of the refusals before the walk.
pub mod Causes
pub mod Ways
