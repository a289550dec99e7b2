pub mod FnRows
pub mod Rows
