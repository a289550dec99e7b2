-- The proofs of the test for room.
pub mod Left
pub mod Ways
