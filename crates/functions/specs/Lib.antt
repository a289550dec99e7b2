-- Node::Fn in parts.
pub mod Defined
pub mod Entering
