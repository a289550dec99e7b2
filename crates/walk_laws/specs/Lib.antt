-- Nodes one after the other, a function's body, and which function takes which kind.
pub mod Lists
pub mod Bodies
pub mod Dispatch
