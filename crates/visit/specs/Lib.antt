-- The walk's state, and the contracts of the functions that visit nodes.
pub mod Whole
pub mod Reach
pub mod Within
pub mod StoreLaws
pub mod Free
pub mod Plain
