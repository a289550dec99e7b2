-- What the contract of the test for depth cites.
pub mod Depths
pub mod DepthLaws
