pub mod Showing
pub mod ShowingLaws
