pub mod Callable
pub mod Limits
pub mod NodeRows
pub mod TypeRows
