-- Node::Extern in code: its functions, and its package.
pub mod Packing
