pub mod ProperTrees
pub mod LibraryTypes
pub mod Messages
pub mod Walked
pub mod Clean
