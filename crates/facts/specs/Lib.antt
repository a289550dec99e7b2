-- Facts on truth values, numbers and lists that the kit's library does not have: laws, and a definition that states one of them.
pub mod Tests
pub mod Lists
