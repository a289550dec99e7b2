-- Writing text into a sink (the rest of a message buffer, a window of rows): what the contracts of the crate cite, and the laws that its callers cite.
pub mod Writing
pub mod Sink
pub mod SinkLaws
pub mod Behind
pub mod Joined
pub mod Signature
pub mod NamesWellFormed
pub mod Leaf
pub mod Every
pub mod WriteLaws
pub mod WritingLaws
pub mod JoinedLaws
pub mod DecimalLaws
pub mod WellFormedLaws
