-- The loop over the rows, and what it hands out.
pub mod Loop
pub mod Handed
