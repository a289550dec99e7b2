-- Spans covered one after the other, and what the functions that cover lists ask for.
pub mod Covers
pub mod Lists
pub mod Ready
