-- What the contracts of the crate cite: words in the bytes of a command; what commands change; what lent lists become; digits; how many bytes are printed.
pub mod Words
pub mod Changes
pub mod Becoming
pub mod Digits
pub mod Printed
