-- What the walk holds where: signatures and functions in word lists, the store in scratch, the world of the rules; how it is refused.
pub mod Adding
pub mod Context
pub mod Refused
pub mod Reporting
pub mod Signatures
pub mod Store
pub mod World
