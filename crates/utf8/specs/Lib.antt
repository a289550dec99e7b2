pub mod Rfc3629
pub mod Encoding
pub mod Properties
pub mod Front
