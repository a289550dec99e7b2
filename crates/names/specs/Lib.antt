-- One more name in scope, and the end of a let.
pub mod Bound
