pub mod PlaceWays
pub mod FaultWays
pub mod KeptWays
