-- Words, the two texts, names and tokens in them, spans; steps and refusals, and reading words forward. What the contracts of the crate cite.
pub mod Word
pub mod LittleEndian
pub mod Text
pub mod Part
pub mod Token
pub mod Name
pub mod Source
pub mod Span
pub mod Step
pub mod Reader
