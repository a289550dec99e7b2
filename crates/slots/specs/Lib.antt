-- Bindings in scratch, what binding answers, putting types for slots; and their laws.
pub mod Bindings
pub mod BindLaws
pub mod LevelLaws
pub mod PartLaws
pub mod Substitute
pub mod SubstituteLaws
pub mod BoundLaws
