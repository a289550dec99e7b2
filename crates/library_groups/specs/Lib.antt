-- How far a package is certain to keep the rule on groups: definitions.
pub mod Kept
