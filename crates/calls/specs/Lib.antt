-- A call's target, and the call put together of the visits of its arguments and what comes after them.
pub mod Callees
pub mod CallVisits
