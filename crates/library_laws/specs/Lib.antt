-- What an accepted library has, as the theorems over the rules and the code of the walk take it: its names, its types, packages that are
-- added, slots and Unknown in signatures, and how many slots a call can bind.
pub mod Every
pub mod Names
pub mod Types
pub mod Packages
pub mod Slots
pub mod Bindings
pub mod Leaves
pub mod Room
