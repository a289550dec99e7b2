-- The promise `RowsWellFormed`, of every input. In reading order: names of own functions; rows of a functions buffer; the rows and the theorem.
pub mod OwnNames
pub mod FnRows
pub mod Rows
