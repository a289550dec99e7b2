pub mod Printing
pub mod RowsEnd
pub mod PrintingLaws
