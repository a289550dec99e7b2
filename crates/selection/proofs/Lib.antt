pub mod Read
pub mod Ways
