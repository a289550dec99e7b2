-- What the contracts of the reader of an image cite.
pub mod Counted
