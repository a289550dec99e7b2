-- What the code's functions return, over what their calls gave; and examples.
mod SameReturns
pub mod StandsReturns
mod SizeReturns
mod DepthReturns
mod Examples
pub mod GaugeReturns
pub mod GaugeLaws
pub mod DepthLaws
pub mod GrowLaws
pub mod InsideLaws
pub mod MarkLaws
pub mod SameLaws
pub mod UnfoldLaws
