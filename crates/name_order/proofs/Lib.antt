pub mod SwapWays
pub mod SplitWays
pub mod BytesWays
pub mod EndWays
