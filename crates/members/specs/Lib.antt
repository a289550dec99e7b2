-- Node::Array, its members one after the other.
pub mod Turns
pub mod ArrayVisits
