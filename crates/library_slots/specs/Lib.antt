-- Slots by the order of their names: definitions, and what they say of a return type.
pub mod Named
pub mod NamedLaws
