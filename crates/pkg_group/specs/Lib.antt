-- What the contracts of the crate cite.
pub mod GroupSize
pub mod GroupSizeLaws
pub mod Groups
