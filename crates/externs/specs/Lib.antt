-- The functions of an Extern, as entries in scratch.
pub mod Framed
pub mod Entries
