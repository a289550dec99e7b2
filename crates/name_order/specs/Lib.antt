-- The order of names, and what it is to have put places into it.
pub mod Bytes
pub mod Order
pub mod Groups
pub mod OrderLaws
