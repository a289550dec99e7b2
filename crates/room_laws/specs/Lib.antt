-- How many words of scratch and of the functions buffer the walk takes: definitions; sums over what is visited; the words of each node's
-- record; the bounds for inputs that pass refusals 1 to 6.
pub mod Room
pub mod Sums
