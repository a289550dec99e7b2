-- The rules of the check, in reading order: what the walk works on, its steps, operators and casts, calls, the rules (one clause for each node
-- kind), the walk, the check as a whole, its rows; then the promises; last, the definitions as computations.
pub mod World
pub mod Steps
pub mod Operators
pub mod Calls
pub mod Rules
pub mod Walk
pub mod Check
pub mod Rows
pub mod Visited
pub mod Functions
pub mod Names
pub mod Promises
pub mod Run
