-- "The offending word is the first at which, reading forward, the fault is certain": what stands up to and including it decides it. In reading
-- order: two readings side by side; the image's rules and the library's; that no script is asked for a library; and what is owed, which says
-- when word 8,192 offends.
pub mod Forward
pub mod ImageCertain
pub mod LibraryCertain
pub mod LibraryText
pub mod Owed
