mod Fronts
mod Ascii
pub mod Examples
pub mod Laws
