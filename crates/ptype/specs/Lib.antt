-- Types: the definitions, and laws that other crates cite.
pub mod Ty
pub mod Words
pub mod Types
pub mod Show
pub mod Add
pub mod Slots
pub mod Kinds
pub mod Stands
pub mod Size
pub mod Marks
pub mod Gauge
pub mod Inside
pub mod TypeKind
pub mod TypeKindLaws
