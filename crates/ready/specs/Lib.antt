-- What every visit of the walk asks for, and that it holds again after every step. In reading order: the definitions; a step that came to an
-- end; the steps of the walk; room for a node's parts; what plain functions ask for; what a call's types mean; the beginning.
pub mod Ready
pub mod Passes
pub mod After
pub mod Parts
pub mod Unvisited
pub mod Asked
pub mod Meant
pub mod Given
