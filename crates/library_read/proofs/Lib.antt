pub mod GroupWays
pub mod SignatureWays
pub mod RecordWays
pub mod LibraryWays
