-- The places of an image's records and the levels of its types, kept in an array.
pub mod Levels
pub mod Places
pub mod LevelsPlaced
pub mod Placed
pub mod Readable
pub mod NodesAt
pub mod Image
