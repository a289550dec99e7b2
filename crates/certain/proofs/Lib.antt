pub mod LibraryCertain
pub mod ImageOwed
pub mod LibraryOwed
