-- The mission's demands, of what the check answers.
pub mod Demands
