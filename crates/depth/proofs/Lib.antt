-- The proofs of the test for depth.
pub mod PartWays
pub mod NodeWays
