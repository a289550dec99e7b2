-- Zeros over the front of a buffer.
pub mod Zero
