-- The rules of one and two operands, put together of visits: for each function that visits them, what its calls ask for and what it returns.
pub mod Bin
pub mod One
pub mod Cast
