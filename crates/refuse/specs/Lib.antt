-- What the contract of the refusals before the walk cites.
pub mod Answer
