-- What the functions that visit ask for and say, which kinds each takes, and why their calls of each other come to an end.
pub mod Kinds
pub mod Visited
pub mod Blocks
pub mod Measures
