-- Where the code's reading of words stands, in the terms of the definitions, and the laws by which rules follow each other.
pub mod Reading
pub mod Laws
pub mod Reads
pub mod Repeated
pub mod Many
