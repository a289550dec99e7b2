-- The rows of an input.
pub mod Beginning
pub mod BeginningLaws
pub mod RunLaws
