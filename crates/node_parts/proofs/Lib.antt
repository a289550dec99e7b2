-- The proofs of the readers of parts.
pub mod Ways
