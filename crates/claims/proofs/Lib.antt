-- The proofs of the test for claims.
pub mod MarkWays
pub mod ClaimWays
