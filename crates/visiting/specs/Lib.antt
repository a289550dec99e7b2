-- Visits one after the other: the laws that the rules' functions are put together by.
pub mod Then
pub mod Leads
pub mod Blocks
pub mod Operands
pub mod Turns
