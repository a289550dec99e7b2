pub mod AccessWays
pub mod EntryWays
