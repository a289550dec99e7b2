-- Types of type expressions in the walk, and the arguments of a function that is defined.
pub mod Typing
pub mod Arguments
