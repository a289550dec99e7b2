-- What the contract of the test for claims cites.
pub mod Marks
pub mod MarkLaws
