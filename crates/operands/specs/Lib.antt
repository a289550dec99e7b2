-- The rules of one and two operands in parts: what comes before and after the visits of these.
pub mod Ends
pub mod Ready
pub mod Parts
