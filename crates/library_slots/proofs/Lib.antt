pub mod SumWays
pub mod MarkWays
pub mod NameWays
pub mod NamedWays
