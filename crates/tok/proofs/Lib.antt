-- Laws of the definitions, for the proofs here and in other crates; and document 01's example.
pub mod WordLaws
pub mod TextLaws
mod SameLaws
pub mod PartLaws
mod LittleEndianLaws
pub mod NameLaws
pub mod SpanLaws
mod Examples
