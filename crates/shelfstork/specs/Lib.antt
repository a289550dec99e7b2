-- What the exported function tells.
pub mod Told
