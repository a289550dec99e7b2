-- What refusals 1 to 6 leave, and the demands that follow.
pub mod Count
pub mod Passed
pub mod ClaimedOnce
pub mod VisitedParts
pub mod VisitedOf
pub mod SoundTrees
pub mod LongerImage
pub mod Table
